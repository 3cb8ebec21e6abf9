-- A meter has a highest crossing exactly where it has any: the law of a search for any test. So its report has levels exactly where there is a crossing.
use mathlib.Core.Bool.{false}
use mathlib.Core.Logic.{◌↔◌}
use mathlib.Core.Path.{◌≡◌}
use Prim.Native.Nat.{ℕ}
use Rattle.crossing.proofs.Searching.{highest}
use Rattle.meter.specs.declared.Meter.{Meter}
use Rattle.meter.specs.Answered.{CrossingAt, Used, Active}
use Rattle.meter.specs.Calls.{report_call}
use Rattle.meter.specs.Refusals.{impossible}
use Rattle.meter.specs.Reports.{list_of}
use Rattle.meter.proofs.Laws.{with_levels, crossed_levels}
use Rattle.meter.proofs.Outcome.{crosses, highest_used, answered}

module _ (m : Meter) where
  pub used_where_any : ((j : ℕ) × Used m j) ↔ ((j : ℕ) × CrossingAt m j)
  used_where_any = (
    λ s. (s.0, s.1.crossing),
    λ s. let h = highest (crosses m) (list_of m).count s.0 s.1.place s.1.crosses in (h.0, highest_used m h.0 h.1),
  )

  pub unaffected : impossible m ≡ false → Active m → ((report_call m).number ≡ 0) ↔ ((j : ℕ) × CrossingAt m j)
  unaffected ok some =
      (λ z. let L = with_levels (answered m ok) z in used_where_any.0 (L.j, L.used), λ s. crossed_levels (answered m ok) some s.0 s.1)
