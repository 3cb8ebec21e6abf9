-- The active level at a crossing: between A_(j−1) and A_j, which is not below it, and the part of that rise up to where d is 0.
use mathlib.Core.Bool.{true, false≢true}
use mathlib.Core.List.{List}
use mathlib.Core.Path.{◌≡◌, refl}
use Prim.Native.Nat.{ℕ, ◌*◌, ◌-◌, ◌/◌, ◌^◌, ◌≤◌, ◌<◌}
use native.Mathlib.Nat.{le_trans, le_of_lt, mul-le-mul, mul-le-mul_left, div-le_self, div-le_of_le-mul, mul_comm}
use native.Mathlib.Omega.{arith}
use lib.IntN.{ℤ, pos, negsuc, nat_abs, ◌-ℤ◌, ◌*ℤ◌}
use lib.Signed.{lt_z, ◌≤ℤ◌}
use Rattle.std.proofs.lemmas.Bool.Decides.{nat_tests}
use Rattle.std.proofs.lemmas.Int.{ints}
use Rattle.level.specs.Types.{activity}
use Rattle.level.specs.declared.Samples.{Samples}
use Rattle.level.proofs.Laws.{facts, uncut}
use Rattle.crossing.specs.Crossing.{floor_over}
use Rattle.crossing.specs.Inner.FindLevels.{Falling}
use Rattle.crossing.specs.Levels.{active_at}
use Rattle.crossing.proofs.Signs.{by_signs, zero_by_sign}
use Rattle.crossing.proofs.Sizes.{falls, few, still}

pub rises : (S : ℤ) (k : ℕ) (a : List Samples) (j : ℕ) → Falling k a → j < k → 1 ≤ j → 0 < activity a j → pos 0 ≤ℤ (active_at S a j -ℤ active_at S a (j - 1))
unfolding active_at
rises S k a j f l i h = omega (arith, ints, facts.never_falls (activity a j) (activity a (j - 1)) h (falls k a f j l i) (few k a f (j - 1) (omega arith)))

pub ruleset at_crossing = (nat_tests, by_signs, zero_by_sign, rises, still)

-- ---- where d is above 0 and e below

pub wider : (d e : ℤ) → lt_z (pos 0) d ≡ true → lt_z e (pos 0) ≡ true → nat_abs d < nat_abs (d -ℤ e)
wider d e u v = grind (arith, ints)

pub floored : (r d e : ℤ) → pos 0 ≤ℤ r → lt_z (pos 0) d ≡ true → floor_over (r *ℤ d) (nat_abs (d -ℤ e)) ≡ pos (nat_abs r * nat_abs d / nat_abs (d -ℤ e))
floored (pos r) (pos x) e s u = refl
floored (pos r) (negsuc x) e s u = absurd (false≢true u)
floored (negsuc r) d e s u = absurd (omega (arith, ints))

pub part : (r x w : ℕ) → x < w → r * x / w ≤ r
part r x w h = div-le_of_le-mul w (le_trans (mul-le-mul_left r (le_of_lt h)) (omega (arith, mul_comm r w)))

pub part_small : (r x w : ℕ) → r ≤ 2 ^ 22 → x ≤ 2 ^ 22 → r * x / w ≤ 2 ^ 44
part_small r x w h l = le_trans (div-le_self (r * x) w) (le_trans (mul-le-mul h l) (omega arith))

pub ruleset between = (floored, part_small, uncut)
