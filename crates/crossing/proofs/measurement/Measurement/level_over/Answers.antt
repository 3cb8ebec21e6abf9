-- The count has a level.
use Rattle.std.proofs.Common.{◌-ℤ◌, arith}
use Rattle.std.proofs.lemmas.Int.{ints}
use Rattle.level.proofs.Laws.{uncut}
use Rattle.crossing.proofs.Sizes.{level_read}
use Rattle.crossing.proofs.measurement.Measurement.level_over.Goals as goal

pub returns-clause-value : goal.returns-clause-value
returns-clause-value c =
    let e = level_read _ _ c.level.ensures c.requires (omega arith) in
    let s = rw (uncut (c.args.self.now.power.0 -ℤ c.or_zero.result.0) (omega (arith, ints))) at c.sub.ensures in
    cc
