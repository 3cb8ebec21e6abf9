-- What is known of a margin that is not wrong: it is above 0, and small.
use mathlib.Core.Bool.{true, false}
use mathlib.Core.Path.{◌≡◌}
use Prim.Native.Nat.{◌≤◌}
use native.Mathlib.Omega.{arith}
use lib.IntN.{ℤ, pos, nat_abs}
use lib.Signed.{lt_z}
use Rattle.setting.specs.Settings.{least_margin, largest_margin, wrong_margin}
use Rattle.std.proofs.lemmas.Bool.{or_parts}
use Rattle.std.proofs.lemmas.Int.{ints}

-- a margin from 1 to 22314
pub record Allowed (M : ℤ) : Type 0 where
  pub above_zero : lt_z (pos 0) M ≡ true
  pub most : nat_abs M ≤ 22314

pub margin_range : (M : ℤ) → wrong_margin M ≡ false → Allowed M
unfolding wrong_margin
margin_range M ok =
    let n = or_parts (lt_z M least_margin) (lt_z largest_margin M) ok in
    record { above_zero = grind (arith, ints); most = grind (arith, ints) }
