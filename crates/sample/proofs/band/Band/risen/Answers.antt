-- No envelope comes to the end of the last band, so there is a band above one that ends at or below it.
use Rattle.std.proofs.Common.{arith}
use Rattle.sample.proofs.Bands.{some_above}
use Rattle.sample.proofs.band.Band.risen.Goals as goal

pub up-band-requires : goal.up-band-requires
up-band-requires c = some_above c.loop-band.band c.args.q (omega (arith, c.loop-band-test.true)) c.requires.1
