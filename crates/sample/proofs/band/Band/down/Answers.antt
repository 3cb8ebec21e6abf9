-- A band ends where the one above it begins.
use Rattle.std.proofs.Common.{◌∙◌, rules}
use Rattle.sample.proofs.Bands.{down_high}
use Rattle.sample.proofs.band.Band.down.Goals as goal

pub invariant_of-result : goal.invariant_of-result
invariant_of-result c =
    let b = c.args.self in
    record { few = search rules; within = search rules; begins = c.low_end.ensures; ends = b.begins ∙ down_high _ _ _ c.requires b.within }
