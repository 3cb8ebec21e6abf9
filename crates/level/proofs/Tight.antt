-- The third fact's two steps are needed: at one number N^4096 is not below 2^(lev(N) + 1).
use Rattle.std.proofs.Common.{◌+◌, ◌^◌, ◌≤◌, lit≤}
use Rattle.level.specs.Logarithm.{place_up_to, place, start, bit, next, spell, lev}

pub two_needed : 2 ^ (lev 268708151 + 1) ≤ 268708151 ^ 4096
unfolding place_up_to place start bit next spell lev
two_needed = lit≤ tt
