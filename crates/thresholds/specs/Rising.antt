-- What counting asks of a list, and every list that loads has: there is a threshold, they are no more than the places, and they never fall.
use Rattle.std.specs.Prelude.{ℕ, ◌≤◌, ◌<◌}
use Rattle.thresholds.specs.declared.Thresholds.{Thresholds}
use Rattle.thresholds.specs.Lists.{places, threshold_of}

pub record Rising (t : Thresholds) : Type 0 where
  pub some : 0 < t.count
  pub few : t.count ≤ places
  pub rises : (i j : ℕ) → i ≤ j → j < t.count → threshold_of t i ≤ threshold_of t j
