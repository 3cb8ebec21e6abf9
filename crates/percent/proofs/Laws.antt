-- What T is, and its laws: it is the one number that has its property while no larger one has it, or 0; it never falls as the factor grows; it is
-- 10000 exactly where the factor is not below 0. Of lev these rest on its first fact alone.
use mathlib.Core.Bool.{true, false}
use mathlib.Core.Logic.{◌↔◌}
use mathlib.Core.Path.{◌≡◌, sym, ap, ◌∙◌}
use Prim.Native.Nat.{ℕ, ◌+◌, ◌≤◌, ◌<◌}
use native.Mathlib.Omega.{arith}
use lib.IntN.{ℤ, pos, ◌-ℤ◌}
use lib.Signed.{lt_z, le_z}
use Rattle.std.proofs.lemmas.Int.{ints}
use Rattle.level.specs.Logarithm.{lev}
use Rattle.level.proofs.Laws.{facts}
use Rattle.percent.specs.Percent.{whole, not_above, percent_of, IsPercent}
use Rattle.percent.proofs.Largest.{Falls, largest_of, grows, only, by_neighbours}

-- ---- the property

pub falls : (F : ℤ) → Falls (not_above F) whole
unfolding not_above
falls F T U h l u e = let p : lev T ≤ lev U = facts.never_falls T U h l (omega arith) in grind (arith, ints)

-- ---- what T is

pub percent_is : (F : ℤ) → IsPercent F (percent_of F)
unfolding percent_of
percent_is F = largest_of (not_above F) whole

pub percent_only : (F : ℤ) {T : ℕ} → IsPercent F T → percent_of F ≡ T
percent_only F L = only (percent_is F) L

-- told by two logarithms beside lev(10000)
pub percent_at : (F : ℤ) (T : ℕ) → T ≤ whole → (1 ≤ T → not_above F T ≡ true) → (T < whole → not_above F (T + 1) ≡ false) → percent_of F ≡ T
percent_at F T r h n = percent_only F (by_neighbours (falls F) T r h n)

-- ---- its laws

-- a larger factor never has a smaller percentage
pub never_smaller : (F G : ℤ) {T U : ℕ} → le_z F G ≡ true → IsPercent F T → IsPercent G U → T ≤ U
unfolding not_above
never_smaller F G l L M = grows (λ i h u e. grind (arith, ints)) L M

-- T is at most 10000, and 10000 exactly where F is not below 0
pub at_most_whole : (F : ℤ) → percent_of F ≤ whole
at_most_whole F = (percent_is F).at_most

pub whole_from_zero : (F : ℤ) → (percent_of F ≡ whole) ↔ (lt_z F (pos 0) ≡ false)
unfolding not_above
whole_from_zero F = (λ e. not_below_zero (holds_at e), λ e. percent_at F whole (omega arith) (λ h. holds e) (λ h. absurd (omega arith)))
  where
    not_below_zero : not_above F whole ≡ true → lt_z F (pos 0) ≡ false
    not_below_zero h = grind (arith, ints)

    holds : lt_z F (pos 0) ≡ false → not_above F whole ≡ true
    holds e = grind (arith, ints)

    holds_at : percent_of F ≡ whole → not_above F whole ≡ true
    holds_at e = ap (not_above F) (sym e) ∙ (percent_is F).holds (omega arith)

-- where T is below 10000, F is below lev(T + 1) − lev(10000)
pub below_next : (F : ℤ) → percent_of F < whole → lt_z F (pos (lev (percent_of F + 1)) -ℤ pos (lev whole)) ≡ true
unfolding not_above
below_next F h =
    let e : not_above F (percent_of F + 1) ≡ false = (percent_is F).none_larger (percent_of F + 1) (omega arith) (omega arith) in
    grind (arith, ints)
