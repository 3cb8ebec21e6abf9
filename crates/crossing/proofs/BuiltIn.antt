-- The built-in thresholds' levels: C_j is 8192·j.
use mathlib.Core.Path.{◌≡◌, ap, ◌∙◌}
use Prim.Native.Nat.{ℕ, ◌+◌, ◌*◌, ◌<◌}
use native.Mathlib.Omega.{arith}
use lib.IntN.{pos, ◌-ℤ◌}
use Rattle.level.specs.Logarithm.{lev}
use Rattle.level.proofs.Exact.{lev_power}
use Rattle.thresholds.specs.Lists.{built_in_list, built_in_count, threshold_of}
use Rattle.thresholds.proofs.Laws.{built_in_is}
use Rattle.crossing.specs.Levels.{interval_steps, level_of_threshold}
use Rattle.std.proofs.lemmas.Int.{ints}

taken : (x y z : ℕ) → x ≡ z + y → pos x -ℤ pos y ≡ pos z
taken x y z e = omega (arith, ints)

pub built_in_level : (j : ℕ) → j < built_in_count → level_of_threshold (threshold_of built_in_list j) ≡ pos (8192 * j)
unfolding level_of_threshold
built_in_level j l =
    let e : lev (threshold_of built_in_list j) ≡ 4096 * (j + 24) = ap lev (built_in_is j l) ∙ lev_power (j + 24) (omega arith) in
    taken (2 * lev (threshold_of built_in_list j)) interval_steps (8192 * j) (omega (arith, e))
