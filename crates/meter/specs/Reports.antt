-- The report on a meter: METHOD.md, "The report", and its refusals.
use Rattle.std.specs.Prelude.{Option, Some, None, is_none, Bool, false, ◌&&◌, List, [], ◌∷◌, ℕ, eqb, ℤ, pos}
use Rattle.std.specs.Int.Signed.{lt_z}
use Rattle.level.specs.Types.{samples_of, hundredths_of, steps_of, activity, two_words, words}
use Rattle.thresholds.specs.Lists.{places}
use Rattle.thresholds.specs.declared.Thresholds.{Thresholds}
use Rattle.refusal.specs.First.{Rule}
use Rattle.meter.specs.declared.Meter.{Meter}
use Rattle.sample.specs.Sample.{each}
use Rattle.crossing.specs.declared.Levels.{Levels}
use Rattle.crossing.specs.Searched.{levels_at, no_levels, crossing_in, first_excess}
use Rattle.percent.specs.Percent.{percent_of}
use Rattle.setting.specs.Settings.{is_marked}
use Rattle.meter.specs.declared.Report.{Report}
use Rattle.meter.specs.Refusals.{impossible}

-- M, the meter's margin
abbrev pub margin_of : Meter → ℤ
margin_of m = m.setting.margin.0

-- the meter's list
abbrev pub list_of : Meter → Thresholds
list_of m = m.setting.thresholds

-- the highest crossing of a meter, and d_0
unfoldable pub crossing_of : Meter → Option ℕ
crossing_of m = crossing_in (margin_of m) (two_words m.state.sums.sq) (list_of m) m.state.a

unfoldable pub first_of_meter : Meter → ℤ
first_of_meter m = first_excess (margin_of m) (two_words m.state.sums.sq) (list_of m) m.state.a

-- 12: n = 0
unfoldable pub no_samples : Meter → Bool
no_samples m = eqb m.state.sums.n.0 0

-- 13: sq = 0
unfoldable pub no_signal : Meter → Bool
no_signal m = eqb (two_words m.state.sums.sq) 0

-- 14: a_0 = 0
unfoldable pub no_activity : Meter → Bool
no_activity m = eqb (activity m.state.a 0) 0

-- 15: no crossing and d_0 < 0
unfoldable pub level_below : Meter → Bool
level_below m = is_none (crossing_of m) && lt_z (first_of_meter m) (pos 0)

-- 16: no crossing and d_0 > 0
unfoldable pub level_above : Meter → Bool
level_above m = is_none (crossing_of m) && lt_z (pos 0) (first_of_meter m)

unfoldable pub report_rules : Meter → List Rule
report_rules m =
    (2, impossible m)
    ∷ (12, no_samples m)
    ∷ (13, no_signal m)
    ∷ (14, no_activity m)
    ∷ (15, level_below m)
    ∷ (16, level_above m)
    ∷ []

-- no report: all its fields are zero
unfoldable pub no_report : Report
no_report =
    record {
      n = samples_of 0;
      s = pos 0;
      sq = words 0;
      a = each places (λ j. samples_of 0);
      levels = no_levels;
      percent = hundredths_of 0;
      margin = steps_of (pos 0);
      mark = false;
    }

-- the report with some levels: T is the percentage of their factor; the margin is the meter's, with its mark
unfoldable pub report_with : Meter → Levels → Report
report_with m l =
    let sums = m.state.sums in
    record {
      n = sums.n;
      s = sums.s;
      sq = sums.sq;
      a = m.state.a;
      levels = l;
      percent = hundredths_of (percent_of l.factor.0);
      margin = m.setting.margin;
      mark = is_marked (margin_of m);
    }

-- the report at a crossing j
unfoldable pub report_at : Meter → ℕ → Report
report_at m j =
    let sums = m.state.sums in
    report_with m (levels_at (margin_of m) sums.n.0 (two_words sums.sq) (list_of m) m.state.a j)

-- the report at what the search for a crossing found
unfoldable pub report_for : Meter → Option ℕ → Report
report_for m None = no_report
report_for m (Some j) = report_at m j
