-- Two counters at any I, of which the second is on whenever the first is: the first counts at most what the second counts, and its hangover is
-- never shorter. All orders between counts, of the meter and of E, are this one law.
use mathlib.Core.Bool.{Bool, true}
use mathlib.Core.Path.{◌≡◌}
use Prim.Native.Nat.{ℕ, ◌+◌, ◌≤◌}
use native.Mathlib.Nat.{le_refl}
use native.Mathlib.Omega.{arith}
use Rattle.std.proofs.lemmas.Bool.Decides.{nat_tests}
use Rattle.sample.specs.Activity.{counted, hung}

-- count a and hangover h, against count b and hangover g
pub record Under (a h b g : ℕ) : Type 0 where
  pub count : a ≤ b
  pub hang : g ≤ h

pub under_refl : (a h : ℕ) → Under a h a h
under_refl a h = record { count = le_refl a; hang = le_refl h }

pub under_step : (I a h b g : ℕ) (s t : Bool) → (s ≡ true → t ≡ true) → Under a h b g
    → Under (counted I s a h) (hung I s h) (counted I t b g) (hung I t g)
unfolding counted hung
under_step I a h b g s t f u = record { count = grind (arith, nat_tests, u.count, u.hang); hang = grind (arith, nat_tests, u.hang) }

-- a count grows by one at most, and a hangover stays within I
pub counted_le : (I : ℕ) (s : Bool) (a h : ℕ) → counted I s a h ≤ a + 1
unfolding counted
counted_le I s a h = grind (arith, nat_tests)

pub hung_le : (I : ℕ) (s : Bool) (h : ℕ) → h ≤ I → hung I s h ≤ I
unfolding hung
hung_le I s h l = grind (arith, nat_tests)
