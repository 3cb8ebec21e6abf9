-- What the functions inside this crate promise one another. Nothing here is part of what a meter promises.
use Rattle.std.specs.Prelude.{true, false, List, ◌≡◌, ℕ, ◌+◌, ◌≤◌, Result, Ok, Err, Some}
use Rattle.level.specs.Types.{most_samples}
use Rattle.block.specs.Block.{rate_code}
use Rattle.block.specs.Refusals.{sound, samples_part}
use Rattle.rate.specs.declared.Rate.{Rate}
use Rattle.rate.specs.Rates.{rate_of}
use Rattle.refusal.specs.declared.Refusal.{Refusal}
use Rattle.refusal.specs.Number.{number_of}
use Rattle.crossing.specs.declared.Levels.{Levels}
use Rattle.sample.specs.Sample.{fresh_state}
use Rattle.setting.specs.declared.Setting.{Setting}
use Rattle.meter.specs.declared.Meter.{Meter}
use Rattle.meter.specs.declared.Report.{Report}
use Rattle.meter.specs.Calls.{Handed, HandedReport, zero_meter}
use Rattle.meter.specs.Refusals.{impossible}
use Rattle.meter.specs.Reports.{no_samples, no_signal, no_activity, no_report, report_with}

-- the meter that has taken no sample, with any I
unfoldable pub fresh_at : Setting → (I : ℕ) → Meter
fresh_at c I = record { setting = c; state = fresh_state c.thresholds.count I }

-- a meter that refusal 2 lets pass, with its rate
pub record Usable (m : Meter) (r : Rate) : Type 0 where
  pub possible : impossible m ≡ false
  pub rate_is : rate_of m.setting.code ≡ Some r

-- and that takes so many new samples
pub record Ready (m : Meter) (r : Rate) (new : ℕ) : Type 0 where
  pub usable : Usable m r
  pub few : new ≤ 4096
  pub room : m.state.sums.n.0 + new ≤ most_samples

-- a meter on which something was measured: refusals 2 and 12 to 14 let it pass
pub record Tested (m : Meter) : Type 0 where
  pub passed : impossible m ≡ false
  pub n_some : no_samples m ≡ false
  pub sq_some : no_signal m ≡ false
  pub a_some : no_activity m ≡ false

-- a sound block of a rate code, with the part that carries its samples
pub record SoundAt (b : List ℕ) (code : ℕ) (part : List ℕ) : Type 0 where
  pub fits : sound b ≡ true
  pub rate_is : rate_code b ≡ code
  pub part_is : part ≡ samples_part b

-- what opening hands back that led to a meter, or was refused
abbrev pub opened_with : Result Meter Refusal → Handed
opened_with (Ok m) = record { number = 0; meter = m }
opened_with (Err why) = record { number = number_of why; meter = zero_meter }

-- a refused report
unfoldable pub refused_report : ℕ → Meter → HandedReport
refused_report k m = record { number = k; meter = m; report = no_report }

-- a report with levels
unfoldable pub reported_with : Levels → Meter → HandedReport
reported_with l m = record { number = 0; meter = m; report = report_with m l }

-- a report or its refusal, beside the meter
unfoldable pub reported_as : Result Report Refusal → Meter → HandedReport
reported_as (Ok r) m = record { number = 0; meter = m; report = r }
reported_as (Err why) m = refused_report (number_of why) m
