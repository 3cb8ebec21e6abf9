-- No envelope is below 0, so there is a band below one that begins above it.
use Rattle.sample.proofs.Bands.{some_below}
use Rattle.sample.proofs.band.Band.fallen.Goals as goal

pub down-band-requires : goal.down-band-requires
down-band-requires c = some_below c.loop-band.band c.args.q c.loop-band-test.true
