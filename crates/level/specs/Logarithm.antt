-- The level logarithm: METHOD.md, "The level logarithm".
use Rattle.std.specs.Prelude.{ℕ, zero, suc, ◌+◌, ◌*◌, ◌/◌, ◌^◌, ◌<◌, ◌≤◌, cond, ◌&&◌, ℤ, pos, nat_le, Option, Some, None}
use Rattle.level.specs.declared.Steps.{Steps}

-- the highest of the places 0 to k whose power of two is not above n
unfoldable pub place_up_to : ℕ → ℕ → ℕ
place_up_to zero n = 0
place_up_to (suc k) n = cond (nat_le (2 ^ suc k) n) (suc k) (place_up_to k n)

-- b, where the leading one of n stands, counted from 0 at the low end; n is from 1 to 2^80
unfoldable pub place : ℕ → ℕ
place n = place_up_to 80 n

-- m, before the first of the twelve times
unfoldable pub start : ℕ → ℕ
start n = n * 2 ^ 31 / 2 ^ place n

-- with t = m·m: the bit that is written, and the next m
unfoldable pub bit : ℕ → ℕ
bit t = cond (nat_le (2 ^ 63) t) 1 0

unfoldable pub next : ℕ → ℕ
next t = cond (nat_le (2 ^ 63) t) (t / 2 ^ 32) (t / 2 ^ 31)

-- the number that the bits written in k times spell, first bit highest
unfoldable pub spell : ℕ → ℕ → ℕ
spell zero m = 0
spell (suc k) m = bit (m * m) * 2 ^ k + spell k (next (m * m))

-- lev(n), for n from 1 to 2^80
unfoldable pub lev : ℕ → ℕ
lev n = 4096 * place n + spell 12 (start n)

-- the level of any n: none for 0 and above 2^80
unfoldable pub level_of : ℕ → Option ℤ
level_of n = cond (nat_le 1 n && nat_le n (2 ^ 80)) (Some (pos (lev n))) None

-- what an answer says: a level in steps, or that there is none
unfoldable pub value_of : Option Steps → Option ℤ
value_of (Some s) = Some s.0
value_of None = None

-- the steps of an answer. Where there is no level they are 0, which lev(1) is too: a caller that met one could not tell. None does, as the claim's clause
-- `levels_exist` says of a report
abbrev pub steps_in : Option Steps → ℤ
steps_in (Some s) = s.0
steps_in None = pos 0

-- the three facts that the meter rests on
pub record Facts (lev : ℕ → ℕ) : Type 0 where
  pub never_falls : (m n : ℕ) → 1 ≤ m → m ≤ n → n ≤ 2 ^ 80 → lev m ≤ lev n
  pub at_most : (n : ℕ) → 1 ≤ n → n ≤ 2 ^ 80 → 2 ^ lev n ≤ n ^ 4096
  pub less_than : (n : ℕ) → 1 ≤ n → n ≤ 2 ^ 80 → n ^ 4096 < 2 ^ (lev n + 2)
