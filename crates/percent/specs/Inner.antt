-- What the functions inside this crate promise one another. Nothing here is part of what a meter promises.
use Rattle.std.specs.Prelude.{Bool, ◌&&◌, ◌≡◌, ℕ, ◌≤◌, leb, ℤ, pos}
use Rattle.level.specs.Logarithm.{lev}
use Rattle.percent.specs.Percent.{whole, not_above}

-- a number above 0 to be tried, and lev(10000)
pub record Trial (T : ℕ) (top : ℤ) : Type 0 where
  pub some : 1 ≤ T
  pub top_is : top ≡ pos (lev whole)

-- whether T is at most 10000, and not above F
unfoldable pub passes : (F : ℤ) (T : ℕ) → Bool
passes F T = leb T whole && not_above F T
