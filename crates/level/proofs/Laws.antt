-- The three facts about lev: `facts`, by which the crates above know it. The place of the highest one bit and the start m bound n on both sides,
-- and the squarings carry both bounds to n^4096.
use Rattle.std.proofs.Common.{◌≡◌, refl, ℕ, zero, suc, ◌+◌, ◌*◌, ◌/◌, ◌^◌, ◌<◌, ◌≤◌, pos, sym, ap, ◌∙◌, subst, le_trans, le_of_eq, lt_of_lt_of_le, le_of_suc-le-suc, lt_of_le_of_lt, mul-le-mul_right, mul_assoc, mul_comm, div-lt_iff_lt-mul, le_antisymm, lt_of_mul-lt-mul_right, mul-le-mul_left, mul-lt-mul_of_pos_right, pow-suc, lt_of_not-le, le-div_iff_mul-le, not-le_of_lt, div-mul-le_self, le_of_mul-le-mul_right, arith, pow_pos, pow_mono, pow-add, le-leb}
use native.Mathlib.Nat.{one-le-pow, pow-le-pow_left, lt-div-mul-add}
use native.Mathlib.Decide.{dec_le}
use lib.Pow.{shr_mono}
use Rattle.std.proofs.lemmas.Bool.Decides.{nat_tests}
use Rattle.std.proofs.lemmas.Int.{ints}
use Rattle.std.specs.Int.{w64, saturate_signed}
use Rattle.std.specs.Prelude.{ℤ, nat_abs, Option, Some, None}
use Rattle.level.specs.Logarithm.{place_up_to, place, spell, start, lev, level_of, value_of, steps_in, Facts}
use Rattle.level.specs.declared.Steps.{Steps}
use Rattle.std.proofs.lemmas.Nat.{mul-pow}
use Rattle.level.proofs.Powers.{pow_mul}
use Rattle.level.proofs.Squarings.{low, up, spell_lt, spell_mono}

-- ---- the place of the highest one bit

pub pow_lt_cancel : {a b : ℕ} → 2 ^ a < 2 ^ b → a < b
pow_lt_cancel h = lt_of_not-le (λ g. not-le_of_lt h (pow_mono g))

from_low : (h n : ℕ) → 1 ≤ n → 2 ^ place_up_to h n ≤ n
unfolding place_up_to
from_low zero n l = l
from_low (suc h) n l = grind (arith, nat_tests, from_low h n l)

from_up : (h n : ℕ) → n < 2 ^ suc h → n < 2 ^ suc (place_up_to h n)
unfolding place_up_to
from_up zero n l = l
from_up (suc h) n l = grind (arith, nat_tests, from_up h n)

pub place_low : (n : ℕ) → 1 ≤ n → 2 ^ place n ≤ n
unfolding place
place_low n h = from_low 80 n h

pub place_up : (n : ℕ) → n ≤ 2 ^ 80 → n < 2 ^ suc (place n)
unfolding place
place_up n h = from_up 80 n (omega arith)

-- no other place has both
pub place_is : (n b : ℕ) → n ≤ 2 ^ 80 → 2 ^ b ≤ n → n < 2 ^ suc b → place n ≡ b
place_is n b h l u =
    le_antisymm
    (le_of_suc-le-suc (pow_lt_cancel (lt_of_le_of_lt (place_low n (le_trans (pow_pos b) l)) u)))
    (le_of_suc-le-suc (pow_lt_cancel (lt_of_le_of_lt l (place_up n h))))

pub place_mono : (n p : ℕ) → 1 ≤ n → n ≤ p → p ≤ 2 ^ 80 → place n ≤ place p
place_mono n p h l u = le_of_suc-le-suc (pow_lt_cancel (lt_of_le_of_lt (place_low n h) (lt_of_le_of_lt l (place_up p u))))

-- ---- m at the start

start_low : (n : ℕ) → start n * 2 ^ place n ≤ n * 2 ^ 31
unfolding start
start_low n = div-mul-le_self (n * 2 ^ 31) (2 ^ place n)

start_up : (n : ℕ) → n * 2 ^ 31 ≤ (start n + 1) * 2 ^ place n
unfolding start
start_up n = omega (arith, lt-div-mul-add {a = n * 2 ^ 31} (pow_pos (place n)))

pub start_top : (n : ℕ) → 1 ≤ n → 2 ^ 31 ≤ start n
unfolding start
start_top n h =
    (le-div_iff_mul-le (pow_pos (place n))).1
    (le_trans (mul-le-mul_left (2 ^ 31) (place_low n h)) (le_of_eq (mul_comm (2 ^ 31) n)))

pub start_fits : (n : ℕ) → n ≤ 2 ^ 80 → start n < 2 ^ 32
unfolding start
start_fits n h =
    (div-lt_iff_lt-mul (pow_pos (place n))).1
    (lt_of_lt_of_le (mul-lt-mul_of_pos_right (place_up n h) (pow_pos 31)) (le_of_eq (ap (λ (x : ℕ). x * 2 ^ 31) (pow-suc 2 (place n)) ∙ mul_assoc (2 ^ place n) 2 (2 ^ 31) ∙ mul_comm (2 ^ place n) (2 ^ 32))))

-- ---- the two bounds, at k steps. b stands for the place, m for start, q for 2^31, s for 2^spell

lower : (K q b s m n : ℕ) → 0 < q → m * b ≤ n * q → s * q ^ K ≤ m ^ K → b ^ K * s ≤ n ^ K
lower K q b s m n hq h l =
    le_of_mul-le-mul_right
    (le_trans (le_of_eq (mul_assoc (b ^ K) s (q ^ K) ∙ mul_comm (b ^ K) (s * q ^ K)))
    (le_trans (mul-le-mul_right (b ^ K) l)
    (le_trans (le_of_eq (sym (mul-pow m b K))) (le_trans (pow-le-pow_left h K) (le_of_eq (mul-pow n q K))))))
    (one-le-pow K q hq)

upper : (K q b s m n : ℕ) → 0 < b → n * q ≤ m * b → m ^ K < s * q ^ K → n ^ K < b ^ K * s
upper K q b s m n hb h l =
    lt_of_mul-lt-mul_right (q ^ K)
    (lt_of_le_of_lt (le_trans (le_of_eq (sym (mul-pow n q K))) (le_trans (pow-le-pow_left h K) (le_of_eq (mul-pow m b K))))
    (lt_of_lt_of_le (mul-lt-mul_of_pos_right l (one-le-pow K b hb)) (le_of_eq (mul_comm (s * q ^ K) (b ^ K) ∙ sym (mul_assoc (b ^ K) s (q ^ K))))))

pow_lev : (K b s : ℕ) → 2 ^ (K * b + s) ≡ (2 ^ b) ^ K * 2 ^ s
pow_lev K b s = pow-add 2 (K * b) s ∙ ap (λ (x : ℕ). x * 2 ^ s) (ap (λ (x : ℕ). 2 ^ x) (mul_comm K b) ∙ pow_mul 2 b K)

lower_at : (k n : ℕ) → 1 ≤ n → 2 ^ (2 ^ k * place n + spell k (start n)) ≤ n ^ (2 ^ k)
lower_at k n h =
    rw (pow_lev (2 ^ k) (place n) (spell k (start n)))
    (lower (2 ^ k) (2 ^ 31) (2 ^ place n) (2 ^ spell k (start n)) (start n) n (pow_pos 31) (start_low n) (low k (start n) (start_top n h)))

upper_at : (k n : ℕ) → 2 * 3 ^ k ≤ 2 ^ 28 → n ≤ 2 ^ 80 → n ^ (2 ^ k) < 2 ^ (2 ^ k * place n + spell k (start n) + 2)
upper_at k n small h =
    subst (λ (x : ℕ). n ^ (2 ^ k) < 2 ^ x) (regroup (2 ^ k * place n) (spell k (start n)))
    (rw (pow_lev (2 ^ k) (place n) (spell k (start n) + 2))
    (upper (2 ^ k) (2 ^ 31) (2 ^ place n) (2 ^ (spell k (start n) + 2)) (start n + 1) n (pow_pos (place n)) (start_up n) (up k (start n) 1 (start_fits n h) small)))
  where
    regroup : (x y : ℕ) → x + (y + 2) ≡ x + y + 2
    regroup x y = omega arith

-- ---- the three facts

at_most : (n : ℕ) → 1 ≤ n → 2 ^ lev n ≤ n ^ 4096
unfolding lev
at_most n h = lower_at 12 n h

less_than : (n : ℕ) → n ≤ 2 ^ 80 → n ^ 4096 < 2 ^ (lev n + 2)
unfolding lev
less_than n h = upper_at 12 n (omega arith) h

never_falls : (m n : ℕ) → 1 ≤ m → m ≤ n → n ≤ 2 ^ 80 → lev m ≤ lev n
unfolding lev start
never_falls m n h l u = go (dec_le (place n) (place m))
  where
    go : Dec (place n ≤ place m) → 4096 * place m + spell 12 (start m) ≤ 4096 * place n + spell 12 (start n)
    go (yes g) =
        let e : place m ≡ place n = le_antisymm (place_mono m n h l u) g in
        rw e (omega (arith, spell_mono 12 (m * 2 ^ 31 / 2 ^ place n) (n * 2 ^ 31 / 2 ^ place n) (shr_mono (place n) (mul-le-mul_right (2 ^ 31) l))))
    go (no f) = omega (arith, spell_lt 12 (start m), lt_of_not-le f)

pub facts : Facts lev
facts = record { never_falls = never_falls; at_most = λ n h u. at_most n h; less_than = λ n h u. less_than n u }

-- ---- what an answer tells its caller

pub level_exists : (n : ℕ) → 1 ≤ n → n ≤ 2 ^ 80 → level_of n ≡ Some (pos (lev n))
unfolding level_of
level_exists n h u = simp (le-leb 1 n h, le-leb n (2 ^ 80) u)

pub level_some : (n : ℕ) (r : Option Steps) → 1 ≤ n → n ≤ 2 ^ 80 → value_of r ≡ level_of n → r ≡ None → ⊥
unfolding value_of
level_some n r h u e f = let q = e ∙ level_exists n h u in cc

-- an answer for a number in range holds its level
pub level_known : (n : ℕ) (r : Option Steps) → 1 ≤ n → n ≤ 2 ^ 80 → value_of r ≡ level_of n → steps_in r ≡ pos (lev n)
unfolding value_of
level_known n (Some s) h u e = let q = e ∙ level_exists n h u in cc
level_known n None h u e = let q = e ∙ level_exists n h u in cc

-- and one for any other number holds 0
pub level_unknown : (n : ℕ) (r : Option Steps) → level_of n ≡ None → value_of r ≡ level_of n → steps_in r ≡ pos 0
unfolding value_of
level_unknown n (Some s) f e = cc
level_unknown n None f e = refl

-- ---- a sum or a difference of steps that the ends of 64 bits do not cut is itself

pub uncut : (x : ℤ) → nat_abs x < 2 ^ 63 → saturate_signed w64 x ≡ x
uncut x h = grind (arith, ints)
