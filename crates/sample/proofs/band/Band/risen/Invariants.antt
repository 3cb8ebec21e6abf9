-- The invariant: the envelope is not below where the band begins.
use Rattle.std.proofs.Common.{◌≡◌, ◌≤◌, ◌-◌, ◌^◌}
use Rattle.sample.proofs.band.Band.risen.Given as goal

abbrev pub invariant-loop-band : goal.invariant-loop-band
invariant-loop-band l = record { list : l.band.list.now ≡ l.fn.self.list.now; from : l.band.low ≤ l.q; q_max : l.q ≤ 2 ^ 40 }

abbrev pub decreases-loop-band : goal.decreases-loop-band
decreases-loop-band l = l.band.list.now.count - l.band.below
