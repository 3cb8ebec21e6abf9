use Rattle.std.proofs.Common.{refl, arith}
use Rattle.input.proofs.Receiving.{Received-read, Received-failed}
use Rattle.input.proofs.source.Source.receive.Goals as goal

pub loop-self-preserved-in-Ok : goal.loop-self-preserved-in-Ok
loop-self-preserved-in-Ok g c =
    Received-read _ c.loop-self.self _ _ _ _ c.read.new.buf c.in-Ok.count c.loop-self.invariant c.in-Ok.ensures.bytes.0 (grind arith) c.read.auto.buf c.in-Ok.ensures.bound.0 refl refl refl (grind arith)

pub loop-self-preserved : goal.loop-self-preserved
loop-self-preserved g c = Received-failed _ c.loop-self.self _ _ _ _ c.read.new.buf c.loop-self.invariant c.in-Err.ensures.bytes (grind arith) c.read.auto.buf refl refl refl refl

pub returns-in_err-again-in-Err-clause-received : goal.returns-in_err-again-in-Err-clause-received
returns-in_err-again-in-Err-clause-received g c =
    Received-failed _ c.loop-self.self _ _ _ _ c.read.new.buf c.loop-self.invariant c.in-Err.ensures.bytes (grind arith) c.read.auto.buf refl refl refl refl
