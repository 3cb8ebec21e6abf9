-- The powers of 2^20 that E's fractions stand over.
use mathlib.Core.Path.{◌≡◌, sym, ◌∙◌, ap}
use Prim.Native.Nat.{ℕ, ◌+◌, ◌*◌, ◌^◌, ◌<◌}
use native.Mathlib.Nat.{one-le-pow, pow-suc}
use native.Mathlib.Numerals.{add-one}
use lib.Dec.{lit≤}

pub power_pos : (i : ℕ) → 0 < (2 ^ 20) ^ i
power_pos i = one-le-pow i (2 ^ 20) (lit≤ tt)

pub power_next : (i : ℕ) → (2 ^ 20) ^ i * 2 ^ 20 ≡ (2 ^ 20) ^ (i + 1)
power_next i = sym (ap (λ (k : ℕ). (2 ^ 20) ^ k) (add-one i) ∙ pow-suc (2 ^ 20) i)
