-- The invariant is `Going`: the samples so far kept the envelope in the band.
use Rattle.sample.proofs.Ran.{Going}
use Rattle.sample.proofs.runs.run_on.Given as goal

abbrev pub invariant-loop-end : goal.invariant-loop-end
invariant-loop-end l = Going l.by l.band.low l.band.high l.fn.first l.xs l.at l.last l.end
