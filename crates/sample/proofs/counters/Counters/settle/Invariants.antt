-- The invariant: the counters from the first place up to this one are settled, and the others left alone.
use Rattle.sample.specs.Inner.Over.{between}
use Rattle.sample.specs.Inner.Counters.{Settled}
use Rattle.sample.proofs.counters.Counters.settle.Given as goal

abbrev pub invariant-loop-j : goal.invariant-loop-j
invariant-loop-j l = Settled l.at (λ i. between l.from l.j i) (λ _. l.on) l.initial.self l.self
