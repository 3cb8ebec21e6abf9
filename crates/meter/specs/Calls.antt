-- What each call hands back: METHOD.md, "One sample", "The report" and "Why a call is refused".
use Rattle.std.specs.Prelude.{cond, List, ℕ, eqb, ℤ}
use Rattle.refusal.specs.First.{first_of}
use Rattle.block.specs.Block.{samples_in}
use Rattle.refusal.specs.Number.{number_given}
use Rattle.meter.specs.declared.Fed.{Fed}
use Rattle.meter.specs.declared.Meter.{Meter}
use Rattle.setting.specs.declared.Setting.{Setting}
use Rattle.sample.specs.declared.Counting.{Counting}
use Rattle.sample.specs.Sample.{fresh_state, state_after}
use Rattle.setting.specs.Settings.{k_of, i_of, no_setting}
use Rattle.meter.specs.declared.Report.{Report}
use Rattle.meter.specs.declared.Reported.{Reported}
use Rattle.meter.specs.Refusals.{open_rules, chunk_rules, block_call_rules}
use Rattle.meter.specs.Reports.{report_rules, crossing_of, no_report, report_for}

-- the number given, 0 for accepted, and the meter handed back
pub record Handed : Type 0 where
  pub number : ℕ
  pub meter : Meter

-- and beside them a report
pub record HandedReport : Type 0 where
  pub number : ℕ
  pub meter : Meter
  pub report : Report

-- what an answer of the code says
unfoldable pub handed_by : Fed → Handed
handed_by f = record { number = number_given f.answer; meter = f.meter }

unfoldable pub reported_by : Reported → HandedReport
reported_by f = record { number = number_given f.answer; meter = f.meter; report = f.report }

-- the fresh meter: that setting, each h_j = I, all else zero
unfoldable pub fresh : Setting → Meter
fresh c = record { setting = c; state = fresh_state c.thresholds.count (i_of c) }

-- the meter of all zeros, beside a refused opening
unfoldable pub zero_meter : Meter
zero_meter = record { setting = no_setting; state = fresh_state 0 0 }

-- what counting goes by: the rate's K and I, and the offset
unfoldable pub counting_of : Setting → Counting
counting_of c = record { k = k_of c; i = i_of c; offset = c.offset }

-- the meter after samples in order
unfoldable pub after_samples : Meter → List ℤ → Meter
after_samples m xs = record { setting = m.setting; state = state_after (counting_of m.setting) m.setting.thresholds m.state xs }

-- a call that is accepted where the number is 0 hands back the first meter, else the second
abbrev pub handed : ℕ → Meter → Meter → Handed
handed r accepted refused = record { number = r; meter = cond (eqb r 0) accepted refused }

unfoldable pub open_call : Setting → Handed
open_call c = handed (first_of (open_rules c)) (fresh c) zero_meter

unfoldable pub chunk_call : Meter → List ℤ → Handed
chunk_call m xs = handed (first_of (chunk_rules m xs)) (after_samples m xs) m

unfoldable pub block_call : Meter → List ℕ → Handed
block_call m b = handed (first_of (block_call_rules m b)) (after_samples m (samples_in b)) m

unfoldable pub report_call : Meter → HandedReport
report_call m =
    let r = first_of (report_rules m) in
    record { number = r; meter = m; report = cond (eqb r 0) (report_for m (crossing_of m)) no_report }
