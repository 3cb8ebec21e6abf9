-- A power of two with a signed exponent z, in whole numbers: 2^z is 2^above(z) over 2^below(z), of which one is 1. Where z is negative the power goes to
-- the other side of an inequality.
use Rattle.std.specs.Prelude.{ℕ, suc, ℤ, pos, negsuc}

unfoldable pub above : ℤ → ℕ
above (pos n) = n
above (negsuc n) = 0

unfoldable pub below : ℤ → ℕ
below (pos n) = 0
below (negsuc n) = suc n
