-- The invariant: what is left of the number, put down from the place that is reached on, makes the whole of it.
use Rattle.std.proofs.Common.{◌-◌, ◌≡◌, ◌+◌}
use Rattle.std.proofs.lemmas.List.Edits.{sets}
use Rattle.coding.specs.Numbers.{bytes_of}
use Rattle.coding.proofs.putting.put_number.Given as goal

abbrev pub invariant-loop-place : goal.invariant-loop-place
invariant-loop-place l = sets l.buffer l.place (bytes_of (l.at + l.size - l.place) l.rest) ≡ sets l.fn.buffer l.at (bytes_of l.size l.x)
