-- The counter of a place is as it was until its turn, and after it what the closed forms say.
use Rattle.std.proofs.Common.{ap, arith, rules}
use Rattle.level.specs.declared.Samples.{Samples}
use Rattle.sample.proofs.Settling.{none_yet, untouched, one_more, hung_within}
use Rattle.sample.proofs.counters.Counters.settle.Goals as goal

pub loop-j-init : goal.loop-j-init
loop-j-init c = none_yet c.args.at c.args.from c.args.on c.args.self.now (search rules) (search rules)

pub after_run-count-requires : goal.after_run-count-requires
after_run-count-requires c =
    let l = c.loop-j in
    let p = c.requires.standing in
    let e = untouched _ _ _ _ _ l.j l.auto.j (omega arith) l.invariant in
    (omega (arith, e.index, e.count, p.room l.j), l.self.h_max l.j)

pub invariant_of-self : goal.invariant_of-self
invariant_of-self c = record { h_max = hung_within c.loop-j.self _ _ _ _ c.after_run-count.ensures.hangover }

pub loop-j-preserved : goal.loop-j-preserved
loop-j-preserved c =
    let l = c.loop-j in
    record {
      a_length = search rules;
      h_length = search rules;
      same = l.invariant.same;
      each_one = one_more _ _ _ _ l.self l.j l.auto.j (omega arith) l.invariant (search rules) _ _ (cc (ap (λ (n : Samples). n.0) c.from.ensures, c.after_run-count.ensures.count, c.number.ensures)) c.after_run-count.ensures.hangover;
    }
