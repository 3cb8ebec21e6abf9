-- The counters, one for each threshold: what settling them asks for, and what it does.
use Rattle.std.specs.Prelude.{Bool, cond, ◌≡◌, ℕ, ◌+◌, ◌-◌, ◌^◌, ◌≤◌, ◌<◌, length, get_or}
use Rattle.level.specs.Types.{activity}
use Rattle.thresholds.specs.Lists.{places}
use Rattle.sample.specs.declared.counters.Counters.{Counters}
use Rattle.sample.specs.Inner.Over.{count_over, hangover_over}

-- counters that can be settled at an index: the counts have room for the samples since
pub record Standing (at : ℕ) (c : Counters) : Type 0 where
  pub index : (j : ℕ) → get_or c.since j 0 ≤ at
  pub room : (j : ℕ) → activity c.a j + (at - get_or c.since j 0) < 2 ^ 63

-- one counter, settled at an index where it is one of those to be settled, else left alone. `on` says whether the envelope was at or above its
-- threshold
pub record SettledAt (I at : ℕ) (one on : Bool) (a h since a' h' since' : ℕ) : Type 0 where
  pub count : a' ≡ cond one (count_over I on (at - since) a h) a
  pub hangover : h' ≡ cond one (hangover_over I on (at - since) h) h
  pub index : since' ≡ cond one at since

-- all of them, by their places
pub record Settled (at : ℕ) (one on : ℕ → Bool) (c d : Counters) : Type 0 where
  pub a_length : length d.a ≡ places
  pub h_length : length d.h ≡ places
  pub same : d.i ≡ c.i
  pub each_one : (j : ℕ) → SettledAt c.i at (one j) (on j) (activity c.a j) (get_or c.h j 0) (get_or c.since j 0) (activity d.a j) (get_or d.h j 0) (get_or d.since j 0)
