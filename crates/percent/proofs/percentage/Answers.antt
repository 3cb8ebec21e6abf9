-- Each turn keeps `Halving`; at the end the width is 1, and `low` is the largest, of which there is only one.
use Rattle.std.proofs.Common.{sym, ap, ◌∙◌, arith}
use Rattle.level.specs.Types.{hundredths_of}
use Rattle.percent.specs.Inner.{passes}
use Rattle.percent.specs.Percent.{whole}
use Rattle.percent.proofs.Largest.{begun, up, down, ended}
use Rattle.percent.proofs.Laws.{falls, percent_only}
use Rattle.percent.proofs.percentage.Goals as goal

pub loop-width-init : goal.loop-width-init
loop-width-init c = (begun _ whole _ 14 (omega arith) (omega arith), omega arith)

pub loop-width-preserved-then-passes : goal.loop-width-preserved-then-passes
unfolding passes
loop-width-preserved-then-passes c =
    (up (falls _) c.loop-width.invariant.0 (omega (arith, c.loop-width-test.true)) (sym c.passes.ensures ∙ c.if-passes.true), omega arith)

pub loop-width-preserved : goal.loop-width-preserved
unfolding passes
loop-width-preserved c =
    (down (falls _) c.loop-width.invariant.0 (omega (arith, c.loop-width-test.true)) (sym c.passes.ensures ∙ c.if-passes.false), omega arith)

pub returns : goal.returns
returns c =
    c.into.ensures ∙ ap hundredths_of (sym (percent_only _ (ended c.loop-width.invariant.0 (omega (arith, c.loop-width-test.false)))))
