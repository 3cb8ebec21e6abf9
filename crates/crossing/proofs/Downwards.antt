-- The search downwards for the highest crossing, over the definitions. The invariant: no crossing is above j, and there is one at j where d_(j−1) is
-- above 0 and `below` says that d_j is below it, which it says only where something was counted.
use Rattle.std.proofs.Common.{Bool, true, false, cond, ◌&&◌, List, ◌≡◌, ℕ, zero, suc, ◌-◌, ◌≤◌, ◌<◌, ℤ, leb, arith, Some, None}
use Rattle.std.specs.Ordering.{is_eq, is_gt, is_lt}
use Rattle.std.specs.declared.cmp.Ordering.{Ordering}
use Rattle.std.proofs.lemmas.Grind.{common_steps}
use Rattle.std.proofs.lemmas.Bool.Decides.{nat_tests}
use Rattle.level.specs.Types.{activity}
use Rattle.level.specs.declared.Samples.{Samples}
use Rattle.thresholds.specs.declared.Thresholds.{Thresholds}
use Rattle.crossing.specs.Crossing.{is_crossing, highest_below, crossing}
use Rattle.crossing.specs.Inner.FindLevels.{Falling}
use Rattle.crossing.proofs.Searching.{step}
use Rattle.crossing.proofs.Signs.{sign, by_signs}
use Rattle.crossing.proofs.Sizes.{still}

module _ (M S : ℤ) (T : Thresholds) (a : List Samples) where
  abbrev at : ℕ → Ordering
  at = sign M S T a

  pub record Inv (below : Bool) (j : ℕ) : Type 0 where
    pub counted : below ≡ true → 0 < activity a (j - 1)
    pub rest : crossing M S T a ≡ cond (leb 1 j && is_gt (at (j - 1)) && below) (Some j) (highest_below (is_crossing M S T a) j)

  pub begins : Inv false T.count
  unfolding crossing
  begins = record { counted = λ e. grind arith; rest = grind (arith, common_steps) }

  pub ends : (below : Bool) (j : ℕ) → Inv below j → j ≤ 0 → crossing M S T a ≡ None
  unfolding highest_below
  ends below zero inv l = inv.rest
  ends below (suc j) inv l = absurd (omega arith)

  -- past a count of 0
  pub past_empty : (below : Bool) (j : ℕ) → Inv below j → 0 < j → activity a (j - 1) ≡ 0 → Inv below (j - 1)
  past_empty below j inv l z = record { counted = λ e. grind (arith, inv.counted); rest = grind (arith, nat_tests, inv.rest, inv.counted, step, by_signs) }

  -- past a count above 0, at which d is not 0 and does not turn
  pub past : (below : Bool) (j : ℕ) (b : Bool) → Inv below j → 0 < j → Falling T.count a → j ≤ T.count → 0 < activity a (j - 1) → is_eq (at (j - 1)) ≡ false
      → is_gt (at (j - 1)) && below ≡ false → b ≡ is_lt (at (j - 1)) → Inv b (j - 1)
  past below j b inv l f k h z t e =
      record { counted = λ y. still T.count a f (j - 1) (omega arith) h; rest = grind (arith, nat_tests, inv.rest, step, by_signs) }

  -- a crossing at j − 1
  pub at_zero : (below : Bool) (j : ℕ) → Inv below j → 0 < j → 0 < activity a (j - 1) → is_eq (at (j - 1)) ≡ true → crossing M S T a ≡ Some (j - 1)
  at_zero below j inv l h z = grind (arith, nat_tests, inv.rest, step, by_signs)

pub ruleset turns = (begins, ends, past_empty, past, at_zero)
