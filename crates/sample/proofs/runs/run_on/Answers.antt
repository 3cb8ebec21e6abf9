-- What a sample leaves goes on in the band, or ends the run.
use Rattle.std.proofs.Common.{rules}
use Rattle.sample.proofs.Ran.{set_out, run_out, gone_out, gone_on}
use Rattle.sample.proofs.runs.run_on.Goals as goal

pub loop-end-init : goal.loop-end-init
loop-end-init c = set_out _ _ _ _ _ _ c.requires

pub returns-then-not-contains : goal.returns-then-not-contains
returns-then-not-contains c =
    gone_out _ _ _ _ _ _ _ _ _ c.loop-end.invariant c.loop-end-test.true c.requires.k_max (record { sfits = search rules }) (record { sfits = search rules }) c.step-last.ensures

pub loop-end-preserved : goal.loop-end-preserved
loop-end-preserved c =
    let inside = c.contains.ensures.0 c.if-not-contains.false in
    gone_on _ _ _ _ _ _ _ _ _ c.loop-end.invariant c.loop-end-test.true c.requires.k_max (record { sfits = search rules }) (record { sfits = search rules }) c.step-last.ensures inside.0 inside.1

pub returns : goal.returns
returns c = run_out _ _ _ _ _ _ _ _ c.loop-end.invariant c.loop-end-test.false
