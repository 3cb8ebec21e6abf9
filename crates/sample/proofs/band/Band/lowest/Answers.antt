-- There is a first threshold, and none below it.
use Rattle.std.proofs.Common.{refl, sym, rules}
use Rattle.sample.specs.Inner.Bands.{low_end}
use Rattle.sample.proofs.Bands.{ends_at}
use Rattle.sample.proofs.band.Band.lowest.Goals as goal

pub invariant_of-result : goal.invariant_of-result
unfolding low_end
invariant_of-result c = record { few = search rules; within = search rules; begins = refl; ends = sym (ends_at _ _ 0 c.requires.0) }
