-- The invariant: the envelope is below where the band begins, or below its end.
use Rattle.std.proofs.Common.{◌≡◌, ◌<◌, ◌⊎◌}
use Rattle.sample.proofs.band.Band.fallen.Given as goal

abbrev pub invariant-loop-band : goal.invariant-loop-band
invariant-loop-band l = record { list : l.band.list.now ≡ l.fn.self.list.now; to : (l.q < l.band.low) ⊎ (l.q < l.band.high) }

abbrev pub decreases-loop-band : goal.decreases-loop-band
decreases-loop-band l = l.band.below
