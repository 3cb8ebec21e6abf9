-- The rules of the speech, by what the search for a crossing found.
use native.Mathlib.Nat.{pos_of_ne-zero}
use native.Mathlib.Omega.{arith}
use borrow.Author.Tests.{eqb-false}
use Rattle.level.specs.Types.{two_words}
use Rattle.thresholds.proofs.Laws.{loaded, rising}
use Rattle.crossing.specs.Inner.FindLevels.{Measured}
use Rattle.meter.specs.declared.Meter.{Meter}
use Rattle.meter.specs.Inner.{Tested}
use Rattle.meter.specs.Reports.{margin_of, list_of, no_samples, no_signal, no_activity}
use Rattle.meter.proofs.Range.{margin_range}
use Rattle.meter.proofs.Possible.{possible}
use Rattle.meter.proofs.Meter.try_report.Goals as goal

measured : (m : Meter) → Tested m → Measured (margin_of m) m.state.sums.n.0 (two_words m.state.sums.sq) (list_of m) m.state.a
unfolding no_samples no_signal no_activity
measured m t =
    let p = possible m t.passed in
    let l = loaded (list_of m) p.list in
    let r = rising (list_of m) l in
    record {
      margin = omega (arith, (margin_range (margin_of m) p.margin).most);
      n_pos = pos_of_ne-zero (eqb-false _ 0 t.n_some);
      sq_pos = pos_of_ne-zero (eqb-false _ 0 t.sq_some);
      sq_max = omega (arith, p.sq_max, p.n_max);
      list = record { some = r.some; few = r.few; positive = λ j h. omega (arith, l.first_least, r.rises 0 j (omega arith) h) };
      counts = record {
        some = pos_of_ne-zero (eqb-false _ 0 t.a_some);
        few = omega (arith, p.a_max 0 r.some, p.n_max);
        falls = p.a_falls;
      };
    }

pub find_levels-requires : goal.find_levels-requires
find_levels-requires c = measured c.args.self.now c.in_ok-check_measured.ensures.measured
