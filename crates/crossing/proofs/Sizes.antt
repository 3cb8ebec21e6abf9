-- How large the level of a number is, from the logarithm's facts alone, and how large counts that fall are.
use mathlib.Core.List.{List}
use mathlib.Core.Path.{◌≡◌, refl, sym, ap}
use Prim.Native.Nat.{ℕ, zero, suc, ◌*◌, ◌-◌, ◌^◌, ◌≤◌, ◌<◌}
use native.Mathlib.Nat.{le_trans, le_of_eq, lt_of_le_of_lt, pow-le-pow_left, two-pow-succ}
use native.Mathlib.Omega.{arith}
use lib.IntN.{pos, nat_abs}
use lib.Pow.{pow_pos}
use Rattle.level.specs.Logarithm.{lev, level_of, value_of, steps_in}
use Rattle.level.specs.Types.{activity}
use Rattle.std.specs.Prelude.{Option}
use Rattle.level.specs.declared.Samples.{Samples}
use Rattle.level.specs.declared.Steps.{Steps}
use Rattle.level.proofs.Laws.{facts, level_known, level_unknown, pow_lt_cancel}
use Rattle.level.proofs.Powers.{pow_mul}
use Rattle.crossing.specs.Inner.FindLevels.{Falling}

-- 2^l ≤ n^x and n ≤ 2^b give l ≤ b·x
exponent : (l n b x : ℕ) → 2 ^ l ≤ n ^ x → n ≤ 2 ^ b → l < suc (b * x)
exponent l n b x h u =
    pow_lt_cancel
    (lt_of_le_of_lt (le_trans h (le_trans (pow-le-pow_left u x) (le_of_eq (sym (pow_mul 2 b x)))))
    (omega (arith, two-pow-succ (b * x), pow_pos (b * x))))

-- what the code reads as the level of a number that has one
pub level_read : (n : ℕ) (l : Option Steps) → value_of l ≡ level_of n → 1 ≤ n → n ≤ 2 ^ 80 → (steps_in l ≡ pos (lev n)) × (lev n ≤ 327680)
level_read n l v h u = (level_known n l h u v, omega (arith, exponent (lev n) n 80 4096 (facts.at_most n h u) u))

-- the level of a word
pub lev_word : (n : ℕ) → 1 ≤ n → n < 2 ^ 64 → lev n ≤ 2 ^ 18
lev_word n h u = omega (arith, exponent (lev n) n 64 4096 (facts.at_most n h (omega arith)) (omega arith))

-- and what is read of any word: where it has no level, 0
pub level_small : (n : ℕ) (l : Option Steps) → n < 2 ^ 64 → value_of l ≡ level_of n → nat_abs (steps_in l) ≤ 2 ^ 18
unfolding level_of
level_small zero l u v = omega (arith, ap nat_abs (level_unknown 0 l refl v))
level_small (suc n) l u v = omega (arith, ap nat_abs (level_known (suc n) l (omega arith) (omega arith) v), lev_word (suc n) (omega arith) u)

-- counts that fall: each is at most the one before, and the first
pub falls : (k : ℕ) (a : List Samples) → Falling k a → (j : ℕ) → j < k → 1 ≤ j → activity a j ≤ activity a (j - 1)
falls k a f j l h = grind (arith, f.falls (j - 1))

pub few : (k : ℕ) (a : List Samples) → Falling k a → (j : ℕ) → j < k → activity a j ≤ 2 ^ 80
few k a f zero l = f.few
few k a f (suc j) l = grind (arith, few k a f j, f.falls j)

-- no count before one above 0 is 0
pub still : (k : ℕ) (a : List Samples) → Falling k a → (i : ℕ) → i < k → 0 < activity a i → 0 < activity a (i - 1)
still k a f zero l h = h
still k a f (suc i) l h = omega (arith, h, falls k a f (suc i) l (omega arith))
