-- A crossing by the signs of d, as an Ordering has them.
use Rattle.std.proofs.Common.{◌&&◌, ◌||◌, List, ◌≡◌, refl, ℕ, ◌-◌, ℤ, pos, negsuc, leb, ltb, arith}
use Rattle.std.specs.Int.Signed.{lt_z}
use Rattle.std.specs.Ordering.{int_cmp, is_eq, is_gt, is_lt}
use Rattle.std.specs.declared.cmp.Ordering.{Ordering}
use Rattle.std.proofs.lemmas.Bool.Decides.{nat_tests}
use Rattle.std.proofs.lemmas.Int.{ints}
use Rattle.level.specs.Types.{activity}
use Rattle.level.specs.declared.Samples.{Samples}
use Rattle.thresholds.specs.declared.Thresholds.{Thresholds}
use Rattle.crossing.specs.Crossing.{is_zero, is_crossing}
use Rattle.crossing.specs.Levels.{excess}

pub zero_by_sign : (x : ℤ) → is_zero x ≡ is_eq (int_cmp x (pos 0))
zero_by_sign (pos n) = grind (arith, nat_tests)
zero_by_sign (negsuc n) = refl

above_by_sign : (x : ℤ) → lt_z (pos 0) x ≡ is_gt (int_cmp x (pos 0))
above_by_sign x = grind (arith, ints)

below_by_sign : (x : ℤ) → lt_z x (pos 0) ≡ is_lt (int_cmp x (pos 0))
below_by_sign x = grind (arith, ints)

module _ (M S : ℤ) (T : Thresholds) (a : List Samples) where
  abbrev pub sign : ℕ → Ordering
  sign j = int_cmp (excess M S T a j) (pos 0)

  pub by_signs : (j : ℕ) → is_crossing M S T a j ≡ ltb 0 (activity a j) && (is_eq (sign j) || (leb 1 j && is_gt (sign (j - 1)) && is_lt (sign j)))
  unfolding is_crossing
  by_signs j = let d = excess M S T a in cc (zero_by_sign (d j), above_by_sign (d (j - 1)), below_by_sign (d j))
