-- The border of `find_levels`: a measurement whose levels all exist, and a margin in range.
use Rattle.std.specs.Prelude.{List, ℕ, ◌+◌, ◌^◌, ◌≤◌, ◌<◌, ℤ}
use Rattle.level.specs.Types.{activity}
use Rattle.level.specs.declared.Samples.{Samples}
use Rattle.thresholds.specs.declared.Thresholds.{Thresholds}
use Rattle.thresholds.specs.Lists.{places, threshold_of}
use Rattle.crossing.specs.Inner.Steps.{InRange}

-- k counts that fall, the first above 0
pub record Falling (k : ℕ) (a : List Samples) : Type 0 where
  pub some : 0 < activity a 0
  pub few : activity a 0 ≤ 2 ^ 80
  pub falls : (j : ℕ) → j + 1 < k → activity a (j + 1) ≤ activity a j

-- thresholds that have levels, at least one
pub record Leveled (t : Thresholds) : Type 0 where
  pub some : 0 < t.count
  pub few : t.count ≤ places
  pub positive : (j : ℕ) → j < t.count → 1 ≤ threshold_of t j

pub record Measured (M : ℤ) (n sq : ℕ) (t : Thresholds) (a : List Samples) : Type 0 where
  pub margin : InRange M
  pub n_pos : 1 ≤ n
  pub sq_pos : 1 ≤ sq
  pub sq_max : sq ≤ 2 ^ 80
  pub list : Leveled t
  pub counts : Falling t.count a
