-- The border of `State::after`: what it asks for of a state, of what counting goes by, and of how many samples are new. Refusals 2, 3, 8 and 11 give it.
use Rattle.std.specs.Prelude.{ℕ, ◌+◌, ◌*◌, ◌^◌, ◌≤◌, ◌<◌, ◌≡◌, nat_abs, get_or}
use Rattle.level.specs.Types.{most_samples, activity, two_words}
use Rattle.thresholds.specs.declared.Thresholds.{Thresholds}
use Rattle.thresholds.specs.Rising.{Rising}
use Rattle.sample.specs.declared.Counting.{Counting}
use Rattle.sample.specs.declared.Sums.{Sums}
use Rattle.sample.specs.declared.State.{State}
use Rattle.sample.specs.Envelope.{smoothing}

-- sums within their bounds
pub record BoundedSums (m : Sums) : Type 0 where
  pub n_max : m.n.0 ≤ most_samples
  pub s_max : nat_abs m.s ≤ m.n.0 * 2 ^ 15
  pub sq_max : two_words m.sq ≤ m.n.0 * 2 ^ 32
  pub p_max : m.p ≤ 2 ^ 40
  pub q_max : m.q ≤ 2 ^ 40

pub record Within (by : Counting) (t : Thresholds) (new : ℕ) (m : State) : Type 0 where
  pub sums : BoundedSums m.sums
  pub list : Rising t
  pub a_max : (j : ℕ) → j < t.count → activity m.a j ≤ m.sums.n.0
  pub h_max : (j : ℕ) → j < t.count → get_or m.h j 0 ≤ by.i
  pub a_past : (j : ℕ) → t.count ≤ j → activity m.a j ≡ 0
  pub h_past : (j : ℕ) → t.count ≤ j → get_or m.h j 0 ≡ 0
  pub k_max : by.k ≤ smoothing
  pub room : m.sums.n.0 + new ≤ most_samples
  pub few : new < 2 ^ 32
