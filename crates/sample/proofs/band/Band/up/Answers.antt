-- A band begins where the one below it ends.
use Rattle.std.proofs.Common.{◌∙◌, rules}
use Rattle.sample.proofs.Bands.{up_low}
use Rattle.sample.proofs.band.Band.up.Goals as goal

pub invariant_of-result : goal.invariant_of-result
invariant_of-result c =
    let b = c.args.self in
    record { few = search rules; within = search rules; begins = b.ends ∙ up_low _ _ _ c.requires; ends = c.high_end.ensures }
