-- The invariant is `Turning`: the counters stand for where the definition's are, and the rest of the samples lead to what all of them lead to.
use Rattle.std.proofs.Common.{◌-◌, length}
use Rattle.sample.proofs.Turning.{Turning}
use Rattle.sample.proofs.State.after.Given as goal

abbrev pub invariant-loop-at : goal.invariant-loop-at
invariant-loop-at l = Turning l.by l.fn.list l.fn.self l.xs l.counters l.moving l.band l.at

abbrev pub decreases-loop-at : goal.decreases-loop-at
decreases-loop-at l = length l.xs - l.at
