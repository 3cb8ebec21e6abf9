use Rattle.std.proofs.Common.{◌≡◌, ◌+◌, ◌-◌, ◌^◌, ◌%◌, ◌≤◌, IsErr, ℕ}
use Rattle.input.specs.declared.streams.Streams.{Streams}
use Rattle.input.specs.Streams.{place_of, writing_of}
use Rattle.input.proofs.streams.Streams.pass.Given as goal

-- n bytes were to be passed, and left are to be passed yet
pub record Passed {IN OUT : ℕ} (old new : Streams IN OUT) (n left : ℕ) : Type 0 where
  pub most : left ≤ n
  pub place : place_of new ≡ (place_of old + (n - left)) % 2 ^ 64
  pub failed : IsErr (writing_of old) → writing_of new ≡ writing_of old

abbrev pub invariant-loop-left : goal.invariant-loop-left
invariant-loop-left g l = Passed l.fn.self l.self l.fn.n l.left

abbrev pub decreases-loop-left : goal.decreases-loop-left
decreases-loop-left g l = l.left
