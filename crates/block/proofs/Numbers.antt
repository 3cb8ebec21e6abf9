-- The fields of a block by name, runs of zeros, and the sums over its words.
use mathlib.Core.Bool.{Bool, true, ◌&&◌}
use mathlib.Core.List.{List, ◌∷◌, [], ◌++◌}
use mathlib.Core.Path.{◌≡◌, refl, sym, ap, ap₂, ◌∙◌}
use Prim.Native.Nat.{ℕ, zero, suc, ◌+◌, ◌-◌, ◌*◌, ◌%◌, ◌^◌, ◌≤◌, ◌<◌}
use native.Mathlib.Omega.{arith}
use native.Mathlib.Nat.{mul-le-mul, add-zero}
use native.Mathlib.Numerals.{add-one}
use borrow.Author.Tests.{eq-eqb, eqb-true}
use lib.Dec.{eqb}
use lib.ListN.{length, get_or, take, drop, replicate}
use lib.Seq.{drop-cons}
use Rattle.std.specs.List.{list_all}
use Rattle.coding.specs.Numbers.{number_at}
use Rattle.coding.proofs.Bytes.{first_is, rest_is}
use Rattle.coding.proofs.Numbers.{one_byte}
use Rattle.refusal.proofs.Laws.{both}
use Rattle.block.specs.Block.{kind, rate_code, before, word, sum_below, check_sum, weighted_sum}
use Rattle.block.specs.Refusals.{zeros}

pub before_is : (b : List ℕ) → number_at b 4 8 ≡ before b
unfolding before
before_is b = refl

pub word_is : (b : List ℕ) (i : ℕ) → get_or b (2 * i) 0 + 256 * get_or b (2 * i + 1) 0 ≡ word b i
unfolding word number_at
word_is b i = omega arith

pub kind_is : (b : List ℕ) → get_or b 0 0 ≡ kind b
unfolding kind
kind_is b = one_byte b 0

pub rate_code_is : (b : List ℕ) → number_at b 1 1 ≡ rate_code b
unfolding rate_code
rate_code_is b = refl

-- ---- a run of zeros

pub zeros_are : (b : List ℕ) (at k : ℕ) → at + k ≤ length b → list_all (λ x. eqb x 0) (take k (drop at b)) ≡ zeros b at k
unfolding zeros
zeros_are b at zero h = refl
zeros_are b at (suc k) h =
    ap (λ (l : List ℕ). list_all (λ x. eqb x 0) (take (suc k) l)) (drop-cons b at 0 (omega arith))
    ∙ ap (λ (z : Bool). eqb (get_or b at 0) 0 && z) (ap (λ (n : ℕ). list_all (λ x. eqb x 0) (take k (drop n b))) (sym (add-one at)) ∙ zeros_are b (at + 1) k (omega arith))

-- zeros put down are found, and those found are put down again
pub read_zeros : (b : List ℕ) (k at : ℕ) (r : List ℕ) → drop at b ≡ replicate k 0 ++ r → zeros b at k ≡ true
unfolding zeros
read_zeros b zero at r e = refl
read_zeros b (suc k) at r e =
    simp (eq-eqb (get_or b at 0) 0 (first_is b at 0 (replicate k 0 ++ r) e), read_zeros b k (at + 1) r (rest_is b at 1 (0 ∷ []) (replicate k 0 ++ r) e refl))

pub again_zeros : (b : List ℕ) (k at : ℕ) → at + k ≤ length b → zeros b at k ≡ true → replicate k 0 ++ drop (at + k) b ≡ drop at b
unfolding zeros
again_zeros b zero at h z = ap (λ (n : ℕ). drop n b) (add-zero at)
again_zeros b (suc k) at h z =
    let t = both (eqb (get_or b at 0) 0) (zeros b (at + 1) k) z in
    let next : at + suc k ≡ at + 1 + k = omega arith in
    ap₂ ◌∷◌ (sym (eqb-true (get_or b at 0) 0 t.0))
    (ap (λ (n : ℕ). replicate k 0 ++ drop n b) next ∙ again_zeros b k (at + 1) (omega arith) t.1 ∙ ap (λ (n : ℕ). drop n b) (add-one at))
    ∙ sym (drop-cons b at 0 (omega arith))

-- ---- a sum

pub sum_zero : (f : ℕ → ℕ) → 0 ≡ sum_below f 0
unfolding sum_below
sum_zero f = refl

pub sum_more : (f : ℕ → ℕ) (k sum x : ℕ) → sum ≡ sum_below f k → x ≡ f k → sum + x ≡ sum_below f (k + 1)
unfolding sum_below
sum_more f k sum x e g = ap₂ (λ (y z : ℕ). y + z) e g ∙ sym (ap (sum_below f) (add-one k))

pub weight_small : (i w : ℕ) → w < 2 ^ 16 → (254 - i) * w ≤ 254 * 65535
weight_small i w h =
    let p : 254 - i ≤ 254 = omega arith in
    let q : w ≤ 65535 = omega arith in
    mul-le-mul p q

-- over all words
pub sum_all : (b : List ℕ) (k sum : ℕ) → sum ≡ sum_below (λ i. word b i) k → k ≡ 254 → sum % 65535 ≡ check_sum b
unfolding check_sum
sum_all b k sum e f = ap (λ (x : ℕ). x % 65535) (e ∙ ap (sum_below _) f)

pub weighted_all : (b : List ℕ) (k sum : ℕ) → sum ≡ sum_below (λ i. (254 - i) * word b i) k → k ≡ 254 → sum % 65535 ≡ weighted_sum b
unfolding weighted_sum
weighted_all b k sum e f = ap (λ (x : ℕ). x % 65535) (e ∙ ap (sum_below _) f)

pub ruleset sums = (sum_zero, sum_more, weight_small, sum_all, weighted_all)
