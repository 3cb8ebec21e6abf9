-- A report call whose first tests passed, by what the search for a crossing found.
use mathlib.Core.Bool.{Bool, true, false, cond}
use mathlib.Core.Path.{◌≡◌, refl, ap, ◌∙◌}
use Prim.Native.Nat.{ℕ}
use lib.Dec.{eqb}
use lib.IntN.{pos}
use lib.Signed.{lt_z}
use Rattle.level.specs.Types.{two_words}
use Rattle.std.specs.Prelude.{Option, Some, None, Result, Ok, Err}
use Rattle.refusal.specs.Number.{number_of}
use Rattle.crossing.specs.declared.Levels.{Levels}
use Rattle.crossing.specs.declared.NoCrossing.{NoCrossing}
use Rattle.crossing.specs.declared.NoCrossing.TheVariants.{Below, Above}
use Rattle.crossing.specs.Searched.{refusal_of, Searched, no_levels, said, searched, levels_for}
use Rattle.meter.specs.declared.Meter.{Meter}
use Rattle.meter.specs.Calls.{HandedReport, report_call}
use Rattle.meter.specs.Inner.{Tested, refused_report, reported_with}
use Rattle.meter.specs.Reports.{margin_of, list_of, crossing_of, first_of_meter}
use Rattle.meter.proofs.Outcome.{at_15, at_16, at_0}

-- what is handed back for it
abbrev pub handed_for : Searched → Meter → HandedReport
handed_for s m = cond (eqb s.number 0) (reported_with s.levels m) (refused_report s.number m)

module _ (m : Meter) (t : Tested m) where
  by_crossing : (o : Option ℕ) → crossing_of m ≡ o → handed_for (levels_for (margin_of m) m.state.sums.n.0 (two_words m.state.sums.sq) (list_of m) m.state.a o) m ≡ report_call m
  unfolding levels_for first_of_meter
  by_crossing None e = go (lt_z (first_of_meter m) (pos 0)) refl
    where
      go : (b : Bool) → lt_z (first_of_meter m) (pos 0) ≡ b → handed_for (record { number = cond b 15 16; levels = no_levels }) m ≡ report_call m
      go true p = at_15 m t e p
      go false p = at_16 m t e p
  by_crossing (Some j) e = at_0 m t j e

  pub by_found : (f : Result Levels NoCrossing) → said f ≡ searched (margin_of m) m.state.sums.n.0 (two_words m.state.sums.sq) (list_of m) m.state.a → handed_for (said f) m ≡ report_call m
  unfolding searched crossing_of
  by_found f s = ap (λ (x : Searched). handed_for x m) s ∙ by_crossing (crossing_of m) refl

  -- levels, or no crossing
  pub with_levels : (l : Levels) → said (Ok l) ≡ searched (margin_of m) m.state.sums.n.0 (two_words m.state.sums.sq) (list_of m) m.state.a → reported_with l m ≡ report_call m
  unfolding said
  with_levels l s = by_found (Ok l) s

  pub with_none : (why : NoCrossing) → said (Err why) ≡ searched (margin_of m) m.state.sums.n.0 (two_words m.state.sums.sq) (list_of m) m.state.a
      → refused_report (number_of (refusal_of why)) m ≡ report_call m
  unfolding said
  with_none Below s = by_found (Err Below) s
  with_none Above s = by_found (Err Above) s
