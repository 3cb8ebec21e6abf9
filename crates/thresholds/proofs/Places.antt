-- Lists made from a function: what stands at each place.
use mathlib.Core.List.{List, [], ◌∷◌, ◌++◌}
use mathlib.Core.Logic.{⊎_elim}
use mathlib.Core.Path.{◌≡◌, refl, sym, ap, ap₂, ◌∙◌}
use Prim.Native.Nat.{ℕ, zero, suc, ◌+◌, ◌-◌, ◌≤◌, ◌<◌}
use native.Mathlib.Nat.{add-zero, le_of_suc-le-suc, not-suc-le-zero, zero-add}
use native.Mathlib.Omega.{arith}
use borrow.Author.Tests.{lt-ltb, le-ltb}
use lib.ListN.{length, get_or, set, take, drop, replicate, length-set, length-drop, length-append, length-replicate, get_or-eq_default}
use lib.Seq.{get_or-set_same, get_or-set_other}
use Rattle.std.proofs.lemmas.Bool.{cases_lt, cases_eq}
use Rattle.std.proofs.lemmas.List.{take_all, get_or_append_left, get_or-append_right, get_or-replicate}
use Rattle.thresholds.specs.Places.{list_from, each, up_to}

pub list_length : {A : Type 0} (f : ℕ → A) (j k : ℕ) → length (list_from f j k) ≡ k
unfolding list_from
list_length f j zero = refl
list_length f j (suc k) = ap suc (list_length f (j + 1) k)

list_at : {A : Type 0} (d : A) (f : ℕ → A) (j k i : ℕ) → i < k → get_or (list_from f j k) i d ≡ f (j + i)
unfolding list_from
list_at d f j zero i h = absurd (not-suc-le-zero h)
list_at d f j (suc k) zero h = ap f (sym (add-zero j))
list_at d f j (suc k) (suc i) h = list_at d f (j + 1) k i (le_of_suc-le-suc h) ∙ ap f (omega arith)

pub each_at : {A : Type 0} (d : A) (k : ℕ) (f : ℕ → A) (j : ℕ) → j < k → get_or (each k f) j d ≡ f j
each_at d k f j h = list_at d f 0 k j h ∙ ap f (zero-add j)

list_same : {A : Type 0} (f g : ℕ → A) (n : ℕ) → ((i : ℕ) → i < n → f i ≡ g i) → (j k : ℕ) → j + k ≤ n → list_from f j k ≡ list_from g j k
unfolding list_from
list_same f g n e j zero l = refl
list_same f g n e j (suc k) l = ap₂ ◌∷◌ (e j (omega arith)) (list_same f g n e (j + 1) k (omega arith))

pub each_same : {A : Type 0} (k : ℕ) (f g : ℕ → A) → ((i : ℕ) → i < k → f i ≡ g i) → each k f ≡ each k g
each_same k f g e = list_same f g k e 0 k (omega arith)

-- a list is its elements
list_is : {A : Type 0} (d : A) (l : List A) (f : ℕ → A) (j k : ℕ) → length l ≡ k → ((i : ℕ) → i < k → get_or l i d ≡ f (j + i)) → l ≡ list_from f j k
unfolding list_from
list_is d [] f j zero e g = refl
list_is d [] f j (suc k) e g = absurd (omega (arith, e))
list_is d (x ∷ l) f j zero e g = absurd (omega (arith, e))
list_is d (x ∷ l) f j (suc k) e g =
    ap₂ ◌∷◌ (g 0 (omega arith) ∙ ap f (add-zero j))
    (list_is d l f (j + 1) k (omega (arith, e)) (λ i h. g (suc i) (omega arith) ∙ ap f (omega arith)))

pub is_each : {A : Type 0} (d : A) (k : ℕ) (l : List A) (f : ℕ → A) → k ≡ length l → ((i : ℕ) → i < k → get_or l i d ≡ f i) → l ≡ each k f
is_each d k l f e g = list_is d l f 0 k (sym e) (λ i h. g i h ∙ ap f (sym (zero-add i)))

-- what stands from place k to the end of n places, as a slice has it
pub tail_is : {A : Type 0} (n k : ℕ) (l : List A) → length l ≡ n → take (n - k) (drop k l) ≡ drop k l
tail_is n k l e = take_all (n - k) (drop k l) (omega (arith, length-drop k l))

-- past its end a list reads 0
pub at_or_past : (l : List ℕ) (k b : ℕ) → length l ≡ k → ((j : ℕ) → j < k → get_or l j 0 ≤ b) → (j : ℕ) → get_or l j 0 ≤ b
at_or_past l k b e f j = ⊎_elim (f j) (λ h. let past : length l ≤ j = omega arith in omega (arith, get_or-eq_default l 0 past)) (cases_lt j k)

-- ---- what stands in the first k places

pub up_to_at : (k : ℕ) (f : ℕ → ℕ) (j : ℕ) → j < k → up_to k f j ≡ f j
unfolding up_to
up_to_at k f j l = rw (lt-ltb j k l)

pub up_to_past : (k : ℕ) (f : ℕ → ℕ) (j : ℕ) → k ≤ j → up_to k f j ≡ 0
unfolding up_to
up_to_past k f j l = rw (le-ltb j k l)

pub up_to_same : (k : ℕ) (f g : ℕ → ℕ) → ((i : ℕ) → i < k → f i ≡ g i) → (j : ℕ) → up_to k f j ≡ up_to k g j
up_to_same k f g e j =
    ⊎_elim (λ h. up_to_at k f j h ∙ e j h ∙ sym (up_to_at k g j h)) (λ h. up_to_past k f j h ∙ sym (up_to_past k g j h)) (cases_lt j k)

pub filled_same : (n k : ℕ) (f g : ℕ → ℕ) → ((i : ℕ) → i < k → f i ≡ g i) → each n (up_to k f) ≡ each n (up_to k g)
filled_same n k f g e = each_same n _ _ (λ j l. up_to_same k f g e j)

pub filled_at : (n k : ℕ) (f : ℕ → ℕ) (j : ℕ) → k ≤ n → j < k → get_or (each n (up_to k f)) j 0 ≡ f j
filled_at n k f j m l = each_at 0 n (up_to k f) j (omega arith) ∙ up_to_at k f j l

pub is_filled_lem : (n k : ℕ) (l : List ℕ) (f : ℕ → ℕ) → n ≡ length l → ((i : ℕ) → i < k → get_or l i 0 ≡ f i) → ((i : ℕ) → k ≤ i → get_or l i 0 ≡ 0) → l ≡ each n (up_to k f)
is_filled_lem n k l f e g z =
    is_each 0 n l (up_to k f) e (λ i h. ⊎_elim (λ b. g i b ∙ sym (up_to_at k f i b)) (λ b. z i b ∙ sym (up_to_past k f i b)) (cases_lt i k))

-- a number k times, and zeros
zeros_at : (k i : ℕ) → get_or {A = ℕ} (replicate k 0) i 0 ≡ 0
zeros_at zero i = refl
zeros_at (suc k) zero = refl
zeros_at (suc k) (suc i) = zeros_at k i

pub filled_with : (n k x : ℕ) → k ≤ n → each n (up_to k (λ j. x)) ≡ replicate k x ++ replicate (n - k) 0
filled_with n k x m =
    let a : List ℕ = replicate k x in
    let b : List ℕ = replicate (n - k) 0 in
    let e : length a ≡ k = length-replicate k x in
    sym (is_filled_lem n k (a ++ b) (λ j. x) (omega (arith, e, length-append a b, length-replicate {A = ℕ} (n - k) 0))
    (λ i h. get_or_append_left a b 0 i (omega (arith, e)) ∙ get_or-replicate k i x 0 h) (λ i h. get_or-append_right a b k i 0 e h ∙ zeros_at (n - k) (i - k)))

same_but_one : (f : ℕ → ℕ) (i j : ℕ) → (i ≡ j → ⊥) → up_to j f i ≡ up_to (j + 1) f i
same_but_one f i j q =
    ⊎_elim (λ k. up_to_at j f i k ∙ sym (up_to_at (j + 1) f i (omega arith))) (λ k. up_to_past j f i k ∙ sym (up_to_past (j + 1) f i (omega (arith, q)))) (cases_lt i j)

-- one place more
pub one_place : (n : ℕ) (f : ℕ → ℕ) (j v : ℕ) → j < n → v ≡ f j → set (each n (up_to j f)) j v ≡ each n (up_to (j + 1) f)
one_place n f j v l e =
    is_each 0 n (set old j v) (up_to (j + 1) f) (sym len ∙ sym (length-set old j v)) (λ i h. ⊎_elim (same i) (other i h) (cases_eq i j))
  where
    old : List ℕ
    old = each n (up_to j f)

    len : length old ≡ n
    len = list_length (up_to j f) 0 n

    same : (i : ℕ) → i ≡ j → get_or (set old j v) i 0 ≡ up_to (j + 1) f i
    same i p =
        ap (λ (x : ℕ). get_or (set old j v) x 0) p ∙ get_or-set_same old j v 0 (omega (arith, len))
        ∙ e ∙ sym (up_to_at (j + 1) f j (omega arith)) ∙ ap (up_to (j + 1) f) (sym p)

    other : (i : ℕ) → i < n → (i ≡ j → ⊥) → get_or (set old j v) i 0 ≡ up_to (j + 1) f i
    other i h q = get_or-set_other old j i v 0 q ∙ each_at 0 n (up_to j f) i h ∙ same_but_one f i j q
