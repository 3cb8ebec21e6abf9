-- The envelope: METHOD.md, "One sample".
use Rattle.std.specs.Prelude.{ℕ, ◌+◌, ◌-◌, ◌*◌, ◌/◌, ◌^◌, ℤ, nat_abs, ◌-ℤ◌}

-- K is in parts of this
abbrev pub smoothing : ℕ
smoothing = 2 ^ 20

-- one quantizing interval, in units of P and Q
abbrev pub interval : ℕ
interval = 2 ^ 24

-- one step of smoothing: floor((old(2^20 − K) + new·K) / 2^20)
unfoldable pub smooth : (K old new : ℕ) → ℕ
smooth K old new = (old * (smoothing - K) + new * K) / smoothing

-- |x − o|, the size of a sample x at an offset o
unfoldable pub size : (o x : ℤ) → ℕ
size o x = nat_abs (x -ℤ o)

-- that in units of 2^−24 quantizing interval
unfoldable pub rectified : (o x : ℤ) → ℕ
rectified o x = size o x * interval
