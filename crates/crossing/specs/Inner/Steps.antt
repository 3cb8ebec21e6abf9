-- Levels in steps: how large they are, and which lies between two.
use Rattle.std.specs.Prelude.{ℕ, ◌^◌, ◌≤◌, ℤ, nat_abs, ◌+ℤ◌, ◌-ℤ◌, ◌*ℤ◌}
use Rattle.crossing.specs.Crossing.{floor_over}

-- steps of at most 2^k, either way
abbrev pub Within : (k : ℕ) → ℤ → Type 0
Within k x = nat_abs x ≤ 2 ^ k

-- a margin, or the level of one number
abbrev pub InRange : ℤ → Type 0
InRange x = Within 20 x

-- between two levels A and B, the one that lies as 0 does between two differences d and e
abbrev pub level_between : (A B d e : ℤ) → ℤ
level_between A B d e = A +ℤ floor_over ((B -ℤ A) *ℤ d) (nat_abs (d -ℤ e))
