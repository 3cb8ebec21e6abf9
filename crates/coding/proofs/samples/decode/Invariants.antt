-- The invariant: the first j places hold the first j samples, and the others what they held.
use Rattle.std.proofs.Common.{◌≡◌, ◌++◌, drop}
use Rattle.coding.specs.Samples.{samples_at}
use Rattle.coding.proofs.samples.decode.Given as goal

abbrev pub invariant-loop-j : goal.invariant-loop-j
invariant-loop-j l = l.samples ≡ samples_at l.bytes 0 l.j ++ drop l.j l.fn.samples
