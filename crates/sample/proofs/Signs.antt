-- How large a sample is, and its distance from an offset.
use Prim.Native.Nat.{◌^◌, ◌≤◌}
use native.Mathlib.Omega.{arith}
use lib.IntN.{ℤ, nat_abs}
use mir.Syntax.{w16}
use mir.Val.{SFits}
use Rattle.std.proofs.lemmas.Int.{ints}
use Rattle.sample.specs.Envelope.{size}

pub small : (x : ℤ) → SFits w16 x → nat_abs x ≤ 2 ^ 15
small x f = omega (arith, ints)

pub size_small : (o x : ℤ) → SFits w16 o → SFits w16 x → size o x ≤ 2 ^ 16
unfolding size
size_small o x f g = omega (arith, ints)
