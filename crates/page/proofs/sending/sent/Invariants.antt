use Rattle.std.proofs.Common.{◌≡◌, ◌+◌, [], length}
use Rattle.page.proofs.sending.sent.Given as goal

-- where there is nothing to write, nothing is left of it
abbrev pub invariant-loop-rest : goal.invariant-loop-rest
invariant-loop-rest g l = l.bytes ≡ [] → l.rest ≡ []

abbrev pub decreases-loop-rest : goal.decreases-loop-rest
decreases-loop-rest g l = length l.rest + l.tries.left
