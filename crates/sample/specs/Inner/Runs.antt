-- What the functions inside this crate promise one another about runs of samples. c are the thresholds and k is how many there are.
use Rattle.std.specs.Prelude.{List, [], ◌∷◌, ◌≡◌, ℕ, ◌+◌, ◌-◌, ◌≤◌, ◌<◌, min, leb, ℤ, length, get_or, drop}
use Rattle.level.specs.declared.Samples.{Samples}
use Rattle.level.specs.Types.{samples_of, activity}
use Rattle.thresholds.specs.declared.Thresholds.{Thresholds}
use Rattle.thresholds.specs.Lists.{places, threshold_of}
use Rattle.sample.specs.declared.Counting.{Counting}
use Rattle.sample.specs.declared.Sums.{Sums}
use Rattle.sample.specs.declared.State.{State}
use Rattle.sample.specs.declared.step.Moving.{Moving}
use Rattle.sample.specs.Envelope.{smoothing}
use Rattle.sample.specs.Sample.{each, up_to, counts, hangovers, state_after}
use Rattle.sample.specs.Inner.Bands.{Clear}
use Rattle.sample.specs.Inner.Over.{count_over, hangover_over}
use Rattle.sample.specs.Inner.Steps.{ended, Room}

-- the counters at index i, where counter j stands as it was at index since_j and the envelope has been on Q's side of its threshold from there on
unfoldable pub counts_by : (c : ℕ → ℕ) (k I Q i : ℕ) (since : List ℕ) (a : List Samples) (h : List ℕ) → List Samples
counts_by c k I Q i since a h = each places (λ j. samples_of (up_to k (λ p. count_over I (leb (c p) Q) (i - get_or since p 0) (activity a p) (get_or h p 0)) j))

unfoldable pub hangovers_by : (c : ℕ → ℕ) (k I Q i : ℕ) (since h : List ℕ) → List ℕ
hangovers_by c k I Q i since h = each places (up_to k (λ j. hangover_over I (leb (c j) Q) (i - get_or since j 0) (get_or h j 0)))

-- a state, from its parts
abbrev pub state_of : Sums → List Samples → List ℕ → State
state_of m a h = record { sums = m; a = a; h = h }

-- the state that samples lead to, where the sums already hold the first of them and the counters do not
unfoldable pub led : Counting → Thresholds → Sums → List Samples → List ℕ → List ℤ → State
led by t m a h [] = state_of m a h
led by t m a h (x ∷ xs) =
    state_after by t (state_of m (counts (threshold_of t) t.count by.i m.q a h) (hangovers (threshold_of t) t.count by.i m.q h)) xs

-- the same of all samples xs: the sums were b before them, those up to index i, the one there among them, left m, and the counters stand for an
-- envelope Q at that index
abbrev pub led_by : Counting → Thresholds → (b : Sums) → Moving → (Q i : ℕ) (since : List ℕ) (a : List Samples) (h : List ℕ) → List ℤ → State
led_by by t b m Q i since a h xs =
    led by t (ended b m (min (i + 1) (length xs))) (counts_by (threshold_of t) t.count by.i Q i since a h) (hangovers_by (threshold_of t) t.count by.i Q i since h) (drop i xs)

-- what the sample at index at left, with its envelope in a band, from which a run can start
pub record Runnable (by : Counting) (m : Moving) (low high : ℕ) (xs : List ℤ) (at : ℕ) : Type 0 where
  pub room : Room (length xs - (at + 1)) m
  pub from : low ≤ m.q
  pub to : m.q < high
  pub k_max : by.k ≤ smoothing
  pub some : at < length xs

-- from there, samples that keep the envelope from low up to high lead to index end; r is what the sample there left or, where the samples end there,
-- what all of them left. Counters that stand for an envelope of the band need no settling meanwhile
pub record Ran (by : Counting) (low high : ℕ) (m : Moving) (xs : List ℤ) (at : ℕ) (r : Moving) (end : ℕ) : Type 0 where
  pub on : at < end
  pub within : end ≤ length xs
  pub room : Room (length xs - (end + 1)) r
  pub same : (t : Thresholds) → t.count ≤ places → (b : Sums) (Q : ℕ) (since : List ℕ) (a : List Samples) (h : List ℕ) → low ≤ Q → Q < high → Clear (threshold_of t) t.count low high → ((j : ℕ) → get_or since j 0 ≤ at)
      → led_by by t b m Q at since a h xs ≡ led_by by t b r Q end since a h xs
