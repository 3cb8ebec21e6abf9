-- A step of smoothing is never above the larger of its two inputs, at any K up to 2^20.
use mathlib.Core.Path.{◌≡◌, ap}
use Prim.Native.Nat.{ℕ, ◌+◌, ◌-◌, ◌*◌, ◌^◌, ◌≤◌}
use native.Mathlib.Nat.{mul-le-mul_right, sub-add_cancel, div-le_of_le-mul}
use native.Mathlib.Omega.{arith}
use Rattle.sample.specs.Envelope.{smooth}

-- the sum that a step divides, at any two inputs up to a bound
pub mixed : (K top old new : ℕ) → K ≤ 2 ^ 20 → old ≤ top → new ≤ top → old * (2 ^ 20 - K) + new * K ≤ 2 ^ 20 * top
mixed K top old new k o n = sum (2 ^ 20 - K) (sub-add_cancel k)
  where
    sum : (R : ℕ) → R + K ≡ 2 ^ 20 → old * R + new * K ≤ 2 ^ 20 * top
    sum R e =
        let x = mul-le-mul_right R o in
        let y = mul-le-mul_right K n in
        let z = ap (λ (w : ℕ). w * top) e in
        omega arith

pub smooth_le : (K top old new : ℕ) → K ≤ 2 ^ 20 → old ≤ top → new ≤ top → smooth K old new ≤ top
unfolding smooth
smooth_le K top old new k o n = div-le_of_le-mul (2 ^ 20) (mixed K top old new k o n)
