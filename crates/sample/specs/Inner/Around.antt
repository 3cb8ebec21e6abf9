-- A band of a list, around an envelope.
use Rattle.std.specs.Prelude.{◌≡◌, ℕ, ◌≤◌, ◌<◌}
use Rattle.thresholds.specs.declared.Thresholds.{Thresholds}
use Rattle.sample.specs.declared.band.Band.{Band}

pub record Around (t : Thresholds) (q : ℕ) (b : Band) : Type 0 where
  pub list : b.list.now ≡ t
  pub from : b.low ≤ q
  pub to : q < b.high
