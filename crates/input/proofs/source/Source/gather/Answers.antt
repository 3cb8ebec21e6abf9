use Rattle.std.proofs.Common.{◌≤◌, min, refl, sym, subst, arith, rules}
use Rattle.input.proofs.Receiving.{gathered}
use Rattle.input.proofs.source.Source.gather.Goals as goal

pub returns-then-eq : goal.returns-then-eq
returns-then-eq g c =
    let received = c.receive-self.ensures.received in
    let size = received.size in
    let all = gathered c.args.self.now _ c.receive-self.new.self _ _
    record { order = grind arith; inside = grind arith; at = refl; end = refl; buffer = c.copy_within.ensures.after; read = refl } received (grind arith) in
    record {
      stopped = search rules;
      kept = all.kept;
      place = all.place;
      came = all.came;
      ended = λ _. c.receive-self.ensures.ended;
      enough = λ more. subst (λ k. min c.args.n g.row.N ≤ k) (sym all.count) (c.receive-self.ensures.more more);
    }
