-- The invariant: each sum is the definition's over the words so far, and small.
use Rattle.std.proofs.Common.{◌≡◌, ◌-◌, ◌*◌, ◌≤◌}
use Rattle.block.specs.Block.{word, sum_below}
use Rattle.block.proofs.checks.CheckWords.of.Given as goal

abbrev pub invariant-loop-i : goal.invariant-loop-i
invariant-loop-i l =
    record {
      sum : l.sum ≡ sum_below (λ k. word l.block k) l.i;
      weighted : l.weighted ≡ sum_below (λ k. (254 - k) * word l.block k) l.i;
      sum_small : l.sum ≤ 65535 * l.i;
      weighted_small : l.weighted ≤ 254 * 65535 * l.i;
    }
