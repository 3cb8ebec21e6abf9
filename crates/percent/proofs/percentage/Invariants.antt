-- The loop keeps `Halving`: the largest number lies from `low` to below `low` + `width`.
use Rattle.std.proofs.Common.{◌^◌, ◌≤◌}
use Rattle.percent.specs.Percent.{whole, not_above}
use Rattle.percent.proofs.Largest.{Halving}
use Rattle.percent.proofs.percentage.Given as goal

abbrev pub invariant-loop-width : goal.invariant-loop-width
invariant-loop-width l = Halving (not_above l.factor.0) whole l.low l.width × (l.width ≤ 2 ^ 14)

abbrev pub decreases-loop-width : goal.decreases-loop-width
decreases-loop-width l = l.width
