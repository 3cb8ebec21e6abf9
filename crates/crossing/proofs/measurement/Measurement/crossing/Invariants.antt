-- No crossing is above j, and the last difference says whether there is one at j.
use Rattle.crossing.proofs.Downwards.{Inv}
use Rattle.crossing.proofs.measurement.Measurement.crossing.Given as goal

abbrev pub invariant-loop-j : goal.invariant-loop-j
invariant-loop-j l = Inv l.self.margin.0 l.self.power.0 l.self.thresholds.now l.self.counts.now l.below l.j
