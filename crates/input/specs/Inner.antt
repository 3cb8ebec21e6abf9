-- What the reading of a source leaves in its buffer.
use Rattle.std.specs.Prelude.{◌≡◌, ℕ, ◌+◌, ◌-◌, ◌^◌, ◌%◌, ◌≤◌, List, Option, length, take, slice_range}
use Rattle.std.specs.Io.KnownBytes.{Consumes}
use Rattle.input.specs.declared.source.Source.{Source}

-- now has what came since before, behind what before had; the reader had left the bytes `had`, and has left `has`
pub record Received {N : ℕ} (before now : Source N) (had has : Option (List ℕ)) : Type 0 where
  pub size : length now.buffer ≡ length before.buffer
  pub at : now.at ≡ before.at
  pub grows : before.end ≤ now.end
  pub held : take before.end now.buffer ≡ take before.end before.buffer
  pub place : (now.read + (2 ^ 64 - now.end)) % 2 ^ 64 ≡ (before.read + (2 ^ 64 - before.end)) % 2 ^ 64
  pub came : Consumes had has (slice_range now.buffer before.end now.end)
