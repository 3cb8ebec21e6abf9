-- The invariant: no counter so far is impossible, and the counter before is carried along, at the first place n and 0.
use Rattle.std.proofs.Common.{false, ◌≡◌, ℕ, ◌≤◌, length}
use Rattle.level.specs.declared.Samples.{Samples}
use Rattle.thresholds.specs.Places.{some_below}
use Rattle.sample.specs.declared.State.{State}
use Rattle.possible.specs.Impossible.{impossible_counter}
use Rattle.possible.proofs.Counters.{count_before, hangover_before}
use Rattle.possible.proofs.impossible_counters.Given as goal

pub record Testing (I : ℕ) (m : State) (a : Samples) (h j : ℕ) : Type 0 where
  pub count_is : a.0 ≡ count_before m j
  pub hangover_is : h ≡ hangover_before m j
  pub most : a.0 ≤ m.sums.n.0
  pub none : some_below j (impossible_counter I m) ≡ false

abbrev pub invariant-loop-a : goal.invariant-loop-a
invariant-loop-a l =
    (goal.iterator-loop-a).can_next l.a-iterator × (goal.iterator-loop-a).is_finite l.a-iterator × Testing l.hangover l.state l.before l.held (length l.yielded)
