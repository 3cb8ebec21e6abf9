use Rattle.std.proofs.Common.{◌+◌, ◌-◌}
use Rattle.input.specs.Inner.{Received}
use Rattle.input.proofs.source.Source.receive.Given as goal

abbrev pub invariant-loop-self : goal.invariant-loop-self
invariant-loop-self g l = Received l.fn.self l.self (g.R.Read.remaining l.fn.from) (g.R.Read.remaining l.from)

abbrev pub decreases-loop-self : goal.decreases-loop-self
decreases-loop-self g l = g.row.N - l.self.end + l.tries.left
