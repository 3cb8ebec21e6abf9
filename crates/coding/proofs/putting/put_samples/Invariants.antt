-- The invariant: the samples that are left, put down from the place that is reached on, make all of them.
use Rattle.std.proofs.Common.{◌≡◌, drop}
use Rattle.std.proofs.lemmas.List.Edits.{sets}
use Rattle.coding.specs.Samples.{bytes_of_samples}
use Rattle.coding.proofs.putting.put_samples.Given as goal

abbrev pub invariant-loop-sample : goal.invariant-loop-sample
invariant-loop-sample l = sets l.buffer l.place (bytes_of_samples (drop l.sample-index l.samples)) ≡ sets l.fn.buffer l.at (bytes_of_samples l.samples)
