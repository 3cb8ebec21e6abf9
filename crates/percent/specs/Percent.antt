-- The activity factor as a percentage, T, in hundredths of a percent: METHOD.md, "The report". F is the factor, in steps.
use Rattle.std.specs.Prelude.{Bool, true, false, cond, ◌≡◌, ℕ, zero, suc, ◌≤◌, ◌<◌, ℤ, pos, ◌-ℤ◌}
use Rattle.std.specs.Int.Signed.{le_z}
use Rattle.level.specs.Logarithm.{lev}

-- 100 %, in hundredths of a percent
abbrev pub whole : ℕ
whole = 10000

-- lev(T) − lev(10000) is not above F
unfoldable pub not_above : (F : ℤ) (T : ℕ) → Bool
not_above F T = le_z (pos (lev T) -ℤ pos (lev whole)) F

-- the largest of 1 to k at which f holds, or 0 where there is none
unfoldable pub largest_up_to : (ℕ → Bool) → (k : ℕ) → ℕ
largest_up_to f zero = 0
largest_up_to f (suc k) = cond (f (suc k)) (suc k) (largest_up_to f k)

-- T: the largest whole number from 1 to 10000 for which lev(T) − lev(10000) is not above F, or 0 where there is none
unfoldable pub percent_of : ℤ → ℕ
percent_of F = largest_up_to (not_above F) whole

-- the largest as a relation, which says nothing of a search: T is at most k, f holds at it where it is not 0, and at no larger number up to k
pub record Largest (f : ℕ → Bool) (k T : ℕ) : Type 0 where
  pub at_most : T ≤ k
  pub holds : 1 ≤ T → f T ≡ true
  pub none_larger : (U : ℕ) → T < U → U ≤ k → f U ≡ false

-- T is the percentage of F
abbrev pub IsPercent : (F : ℤ) (T : ℕ) → Type 0
IsPercent F T = Largest (not_above F) whole T
