-- One of the places below k, or from k on: from each to all, and from all to each.
use mathlib.Core.Bool.{Bool, true, false, ◌&&◌, ◌||◌, or-true, or-false, or_assoc}
use mathlib.Core.List.{List, [], ◌∷◌}
use mathlib.Core.Logic.{⊎_elim}
use mathlib.Core.Path.{◌≡◌, refl, sym, ap, ap₂, ◌∙◌}
use Prim.Native.Nat.{ℕ, zero, suc, ◌+◌, ◌≤◌, ◌<◌}
use native.Mathlib.Nat.{eq-or-lt_of_le, le_of_suc-le-suc, not-suc-le-zero, le-suc, lt_of_lt_of_le}
use native.Mathlib.Omega.{arith}
use borrow.Author.Tests.{le-leb, leb-true}
use lib.Dec.{leb}
use lib.ListN.{length, get_or}
use Rattle.std.specs.List.{list_any}
use Rattle.std.proofs.lemmas.Bool.{or_parts}
use Rattle.thresholds.specs.Places.{some_below, some_from}

pub none_below : (k : ℕ) (f : ℕ → Bool) → ((j : ℕ) → j < k → f j ≡ false) → some_below k f ≡ false
unfolding some_below
none_below zero f h = refl
none_below (suc k) f h = simp (none_below k f (λ j l. h j (lt_of_lt_of_le l (le-suc k))), h k (omega arith))

pub each_below : (k : ℕ) (f : ℕ → Bool) → some_below k f ≡ false → (j : ℕ) → j < k → f j ≡ false
unfolding some_below
each_below zero f h j l = absurd (not-suc-le-zero l)
each_below (suc k) f h j l =
    let n = or_parts (some_below k f) (f k) h in
    ⊎_elim (λ e. ap f e ∙ n.1) (λ s. each_below k f n.0 j s) (eq-or-lt_of_le (le_of_suc-le-suc l))

pub some_below_lem : (f : ℕ → Bool) (j k : ℕ) → f j ≡ true → j < k → some_below k f ≡ true
unfolding some_below
some_below_lem f j zero e l = absurd (not-suc-le-zero l)
some_below_lem f j (suc k) e l =
    ⊎_elim (λ p. ap (λ (b : Bool). some_below k f || b) (ap f (sym p) ∙ e) ∙ or-true (some_below k f))
    (λ p. ap (λ (b : Bool). b || f k) (some_below_lem f j k e p))
    (eq-or-lt_of_le (le_of_suc-le-suc l))

-- ---- from k on

pub none_from : (k n : ℕ) (f : ℕ → Bool) → ((j : ℕ) → k ≤ j → j < n → f j ≡ false) → some_from k n f ≡ false
unfolding some_from
none_from k n f h = none_below n _ (λ j l. go j l (leb k j) refl)
  where
    go : (j : ℕ) → j < n → (t : Bool) → leb k j ≡ t → t && f j ≡ false
    go j l true e = h j (leb-true k j e) l
    go j l false e = refl

pub each_from : (k n : ℕ) (f : ℕ → Bool) → some_from k n f ≡ false → (j : ℕ) → k ≤ j → j < n → f j ≡ false
unfolding some_from
each_from k n f e j m l = sym (ap (λ (b : Bool). b && f j) (le-leb k j m)) ∙ each_below n _ e j l

-- ---- a search through a list, as one through places

first_or_later : (k : ℕ) (f : ℕ → Bool) → some_below (suc k) f ≡ f 0 || some_below k (λ j. f (suc j))
unfolding some_below
first_or_later zero f = sym (or-false (f 0))
first_or_later (suc k) f = ap (λ (b : Bool). b || f (suc k)) (first_or_later k f) ∙ or_assoc (f 0) (some_below k (λ j. f (suc j))) (f (suc k))

pub list_any-below : {A : Type 0} (d : A) (test : A → Bool) (l : List A) (f : ℕ → Bool) → ((j : ℕ) → j < length l → test (get_or l j d) ≡ f j) → list_any test l ≡ some_below (length l) f
unfolding some_below
list_any-below d test [] f e = refl
list_any-below d test (x ∷ l) f e =
    ap₂ ◌||◌ (e 0 (omega arith)) (list_any-below d test l (λ j. f (suc j)) (λ j h. e (suc j) (omega arith)))
    ∙ sym (first_or_later (length l) f)

below_past : (k n : ℕ) (f : ℕ → Bool) → some_below n (λ j. f (k + j)) ≡ some_from k (k + n) f
unfolding some_below some_from
below_past k zero f = sym (none_from k (k + 0) f (λ j m l. absurd (omega arith)))
below_past k (suc n) f =
    let e : suc (k + n) ≡ k + suc n = omega arith in
    ap₂ (λ (x y : Bool). x || (y && f (k + n))) (below_past k n f) (sym (le-leb k (k + n) (omega arith))) ∙ ap (λ (m : ℕ). some_from k m f) e

-- the first of the list stands at place k
pub list_any-from : {A : Type 0} (d : A) (test : A → Bool) (l : List A) (k n : ℕ) (f : ℕ → Bool) → k + length l ≡ n → ((j : ℕ) → j < length l → test (get_or l j d) ≡ f (k + j)) → list_any test l ≡ some_from k n f
list_any-from d test l k n f e h = list_any-below d test l (λ j. f (k + j)) h ∙ below_past k (length l) f ∙ ap (λ (m : ℕ). some_from k m f) e
