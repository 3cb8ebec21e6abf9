-- A measurement as the code holds it, and what is said of its levels.
use Rattle.std.specs.Prelude.{◌≡◌, ℕ, ◌<◌, ℤ, Bool, Option}
use Rattle.level.specs.Types.{activity, steps_of}
use Rattle.crossing.specs.declared.measurement.Active.{Active}
use Rattle.crossing.specs.declared.measurement.Measurement.{Measurement}
use Rattle.crossing.specs.declared.measurement.Point.{Point}
use Rattle.crossing.specs.Crossing.{is_crossing, crossing, lower_of, active_level}
use Rattle.crossing.specs.Levels.{active_at, excess}

-- d_j, whether there is a crossing at j, and the highest crossing
abbrev pub excess_at : Measurement → ℕ → ℤ
excess_at m j = excess m.margin.0 m.power.0 m.thresholds.now m.counts.now j

abbrev pub is_crossing_at : Measurement → ℕ → Bool
is_crossing_at m j = is_crossing m.margin.0 m.power.0 m.thresholds.now m.counts.now j

abbrev pub highest_crossing : Measurement → Option ℕ
highest_crossing m = crossing m.margin.0 m.power.0 m.thresholds.now m.counts.now

-- a place that counted anything, and the point at it
pub record Counted (m : Measurement) (j : ℕ) : Type 0 where
  pub place : j < m.thresholds.now.count
  pub some : 0 < activity m.counts.now j

pub record IsPointAt (m : Measurement) (j : ℕ) (p : Point) : Type 0 where
  pub active : p.active ≡ steps_of (active_at m.power.0 m.counts.now j)
  pub excess : p.excess ≡ steps_of (excess_at m j)

-- what is found at a crossing
pub record IsActiveAt (m : Measurement) (j : ℕ) (r : Active) : Type 0 where
  pub level : r.level ≡ steps_of (active_level m.margin.0 m.power.0 m.thresholds.now m.counts.now j)
  pub lower : r.lower ≡ lower_of m.margin.0 m.power.0 m.thresholds.now m.counts.now j
