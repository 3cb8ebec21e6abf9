-- The thresholds that the envelope is at or above, and those that it is below.
use Rattle.std.proofs.Common.{true, false, ltb, arith}
use Rattle.std.proofs.lemmas.Bool.Decides.{nat_tests}
use Rattle.sample.specs.Inner.Over.{between}
use Rattle.sample.proofs.Settling.{twice, still_standing}
use Rattle.sample.proofs.counters.Counters.finish.Goals as goal

pub settle-requires-2-clause-standing : goal.settle-requires-2-clause-standing
settle-requires-2-clause-standing c = still_standing _ _ _ _ _ c.requires c.settle.ensures

pub returns : goal.returns
unfolding between
returns c =
    let below = c.args.band.below in
    let count = c.args.band.list.now.count in
    twice _ (λ j. between 0 below j) (λ j. between below count j) (λ _. true) (λ _. false) (λ j. ltb j below) _ _ _
    (λ j e. grind (arith, nat_tests)) (λ j e. grind (arith, nat_tests)) (λ j e. grind (arith, nat_tests)) c.settle.ensures c.settle-2.ensures
