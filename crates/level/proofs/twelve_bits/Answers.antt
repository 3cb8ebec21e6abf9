-- A turn takes one step.
use Rattle.std.proofs.Common.{arith}
use Rattle.level.proofs.Squarings.{turn}
use Rattle.level.proofs.twelve_bits.Goals as goal

pub loop-preserved : goal.loop-preserved
loop-preserved c = turn c.loop.invariant (omega (arith, c.loop-test.true))
