-- The report on a meter, as a relation between the meter and what is answered: "The report" and "Why a call is refused". It says what is
-- reported, and nothing of how a crossing is searched for.
use Rattle.std.specs.Prelude.{Some, true, false, ◌≡◌, ℕ, ◌≤◌, ◌<◌, ℤ, pos, ◌-ℤ◌, replicate}
use Rattle.std.specs.Int.Signed.{lt_z}
use Rattle.level.specs.Logarithm.{lev, level_of}
use Rattle.level.specs.Types.{samples_of, activity, two_words}
use Rattle.thresholds.specs.Lists.{places, threshold_of}
use Rattle.crossing.specs.Levels.{long_term, excess}
use Rattle.crossing.specs.Crossing.{is_crossing, lower_of, upper_of, active_level}
use Rattle.percent.specs.Percent.{whole, IsPercent}
use Rattle.setting.specs.Settings.{is_marked}
use Rattle.meter.specs.declared.Meter.{Meter}
use Rattle.meter.specs.declared.Report.{Report}
use Rattle.meter.specs.Reports.{margin_of, list_of}

-- lev(sq), and d_0
abbrev pub power_of : Meter → ℤ
power_of m = pos (lev (two_words m.state.sums.sq))

abbrev pub lowest_excess : Meter → ℤ
lowest_excess m = excess (margin_of m) (power_of m) (list_of m) m.state.a 0

-- there is a crossing at j
pub record CrossingAt (m : Meter) (j : ℕ) : Type 0 where
  pub place : j < (list_of m).count
  pub crosses : is_crossing (margin_of m) (power_of m) (list_of m) m.state.a j ≡ true

-- the crossing that is used: there is none at a higher place
pub record Used (m : Meter) (j : ℕ) : Type 0 where
  pub crossing : CrossingAt m j
  pub none_higher : (i : ℕ) → j < i → CrossingAt m i → ⊥

-- the report at a crossing j, field by field
pub record ReportAt (m : Meter) (j : ℕ) (r : Report) : Type 0 where
  pub n : r.n.0 ≡ m.state.sums.n.0
  pub s : r.s ≡ m.state.sums.s
  pub sq : r.sq ≡ m.state.sums.sq
  pub a : r.a ≡ m.state.a
  pub L : r.levels.level.0 ≡ long_term (power_of m) m.state.sums.n.0
  pub A : r.levels.active.0 ≡ active_level (margin_of m) (power_of m) (list_of m) m.state.a j
  pub C : r.levels.threshold.0 ≡ r.levels.active.0 -ℤ margin_of m
  pub F : r.levels.factor.0 ≡ r.levels.level.0 -ℤ r.levels.active.0
  pub lower : r.levels.lower ≡ lower_of (margin_of m) (power_of m) (list_of m) m.state.a j
  pub upper : r.levels.upper ≡ upper_of j
  pub T : IsPercent r.levels.factor.0 r.percent.0
  pub M : r.margin.0 ≡ margin_of m
  pub mark : r.mark ≡ is_marked r.margin.0

-- where a report would stand, all its fields are zero
pub record AllZero (r : Report) : Type 0 where
  pub n : r.n.0 ≡ 0
  pub s : r.s ≡ pos 0
  pub high : r.sq.high ≡ 0
  pub low : r.sq.low ≡ 0
  pub a : r.a ≡ replicate places (samples_of 0)
  pub L : r.levels.level.0 ≡ pos 0
  pub A : r.levels.active.0 ≡ pos 0
  pub C : r.levels.threshold.0 ≡ pos 0
  pub F : r.levels.factor.0 ≡ pos 0
  pub lower : r.levels.lower ≡ 0
  pub upper : r.levels.upper ≡ 0
  pub T : r.percent.0 ≡ 0
  pub M : r.margin.0 ≡ pos 0
  pub mark : r.mark ≡ false

-- something was measured: n, sq and a_0 are above 0
pub record Active (m : Meter) : Type 0 where
  pub n : 0 < m.state.sums.n.0
  pub sq : 0 < two_words m.state.sums.sq
  pub a : 0 < activity m.state.a 0

-- the number and the report that are the answer to a report call on a meter, where 2 does not apply
pub data Answered (m : Meter) : ℕ → Report → Type 0 where
  -- 12: n = 0
  when_no_samples : (r : Report) → AllZero r → m.state.sums.n.0 ≡ 0 → Answered m 12 r
  -- 13: sq = 0
  when_no_signal : (r : Report) → AllZero r → 0 < m.state.sums.n.0 → two_words m.state.sums.sq ≡ 0 → Answered m 13 r
  -- 14: a_0 = 0
  when_no_activity : (r : Report) → AllZero r → 0 < m.state.sums.n.0 → 0 < two_words m.state.sums.sq → activity m.state.a 0 ≡ 0 → Answered m 14 r
  -- 15: no crossing and d_0 < 0
  when_level_below : (r : Report) → AllZero r → Active m → ((j : ℕ) → CrossingAt m j → ⊥) → lt_z (lowest_excess m) (pos 0) ≡ true → Answered m 15 r
  -- 16: no crossing and d_0 > 0
  when_level_above : (r : Report) → AllZero r → Active m → ((j : ℕ) → CrossingAt m j → ⊥) → lt_z (pos 0) (lowest_excess m) ≡ true → Answered m 16 r
  -- levels, at the crossing that is used
  levels : (r : Report) (j : ℕ) → 0 < m.state.sums.n.0 → 0 < two_words m.state.sums.sq → Used m j → ReportAt m j r → Answered m 0 r

-- what a report takes the level of has one: n and sq where they are above 0, each a_j that is, each threshold, and each percentage that it may try
abbrev HasLevel : ℕ → Type 0
HasLevel N = level_of N ≡ Some (pos (lev N))

pub record LevelsExist (m : Meter) : Type 0 where
  pub of_n : 0 < m.state.sums.n.0 → HasLevel m.state.sums.n.0
  pub of_sq : 0 < two_words m.state.sums.sq → HasLevel (two_words m.state.sums.sq)
  pub of_a : (j : ℕ) → j < (list_of m).count → 0 < activity m.state.a j → HasLevel (activity m.state.a j)
  pub of_c : (j : ℕ) → j < (list_of m).count → HasLevel (threshold_of (list_of m) j)
  pub of_t : (T : ℕ) → 1 ≤ T → T ≤ whole → HasLevel T
