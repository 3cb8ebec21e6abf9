-- Thresholds that the envelope rose to, or those that it fell below: there are none of the other sort.
use Rattle.std.proofs.Common.{◌<◌, ◌≤◌, ltb, arith}
use Rattle.std.proofs.lemmas.Bool.Decides.{nat_tests}
use Rattle.sample.specs.Inner.Over.{between}
use Rattle.sample.proofs.Settling.{by_places}
use Rattle.sample.proofs.counters.Counters.cross.Goals as goal

pub returns-then-was-is : goal.returns-then-was-is
unfolding between
returns-then-was-is c =
    let was = c.args.was.below in
    let is = c.args.is.below in
    let rose : was < is = c.if-was-is.true in
    by_places _ _ _ _ (λ j. ltb j was) _ _ (λ j. grind (arith, nat_tests)) (λ j e. grind (arith, nat_tests)) c.settle.ensures

pub returns-else-was-is : goal.returns-else-was-is
unfolding between
returns-else-was-is c =
    let was = c.args.was.below in
    let is = c.args.is.below in
    let fell : is ≤ was = c.if-was-is.false in
    by_places _ _ _ _ (λ j. ltb j was) _ _ (λ j. grind (arith, nat_tests)) (λ j e. grind (arith, nat_tests)) c.settle-else-was-is.ensures
