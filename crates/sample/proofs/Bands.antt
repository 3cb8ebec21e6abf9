-- Bands between thresholds that never fall: what lies on which side of one.
use mathlib.Core.Logic.{◌⊎◌, inl, inr}
use mathlib.Core.Path.{◌≡◌, refl, ap, subst, sym, ◌∙◌}
use Prim.Native.Nat.{ℕ, zero, suc, ◌+◌, ◌-◌, ◌^◌, ◌≤◌, ◌<◌}
use native.Mathlib.Decide.{dec_le}
use native.Mathlib.Nat.{lt_of_not-le, not-suc-le-zero}
use native.Mathlib.Numerals.{add-one}
use native.Mathlib.Omega.{arith}
use lib.Dec.{leb, ltb}
use Rattle.std.proofs.lemmas.Bool.Decides.{nat_tests}
use Rattle.thresholds.specs.declared.Thresholds.{Thresholds}
use Rattle.thresholds.specs.Lists.{threshold_of}
use Rattle.thresholds.specs.Rising.{Rising}
use Rattle.sample.specs.declared.band.Band.{Band}
use Rattle.sample.specs.Inner.Bands.{Clear, top, low_end, high_end}

-- the band above p thresholds, where there is one more, ends at it
pub ends_at : (c : ℕ → ℕ) (k p : ℕ) → p < k → high_end c k p ≡ c p
unfolding high_end
ends_at c k p l = grind (arith, nat_tests)

pub ends_nowhere : (c : ℕ → ℕ) (k p : ℕ) → k ≤ p → high_end c k p ≡ top
unfolding high_end
ends_nowhere c k p l = grind (arith, nat_tests)

-- from band to band
pub up_low : (c : ℕ → ℕ) (k p : ℕ) → p < k → high_end c k p ≡ low_end c (p + 1)
unfolding low_end
up_low c k p l = ends_at c k p l ∙ ap (low_end c) (sym (add-one p))

pub from_none : (c : ℕ → ℕ) (p : ℕ) → p ≡ 0 → 0 ≡ low_end c p
unfolding low_end
from_none c p e = sym (ap (low_end c) e)

pub one_less : (c : ℕ → ℕ) (p : ℕ) → (p ≡ 0 → ⊥) → c (p - 1) ≡ low_end c p
unfolding low_end
one_less c zero z = absurd (z refl)
one_less c (suc p) z = ap c (omega arith)

pub down_high : (c : ℕ → ℕ) (k p : ℕ) → 0 < p → p ≤ k → low_end c p ≡ high_end c k (p - 1)
down_high c k p l m = grind (arith, one_less c p, ends_at c k (p - 1))

module _ (c : ℕ → ℕ) (k : ℕ) (rise : (i j : ℕ) → i ≤ j → j < k → c i ≤ c j) where
  under : (p j : ℕ) → j < p → p ≤ k → c j ≤ low_end c p
  unfolding low_end
  under zero j l m = absurd (not-suc-le-zero l)
  under (suc p) j l m = rise j p (omega arith) (omega arith)

  side_of : (p j : ℕ) → p ≤ k → j < k → Dec (p ≤ j) → (c j ≤ low_end c p) ⊎ (high_end c k p ≤ c j)
  side_of p j m l (yes g) = inr (grind (arith, ends_at c k p, rise p j))
  side_of p j m l (no f) = inl (under p j (lt_of_not-le f) m)

module _ (t : Thresholds) (b : Band) (of_list : b.list.now ≡ t) (r : Rising t) where
  begins : b.low ≡ low_end (threshold_of t) b.below
  begins = b.begins ∙ ap (λ (x : Thresholds). low_end (threshold_of x) b.below) of_list

  ends : b.high ≡ high_end (threshold_of t) t.count b.below
  ends = b.ends ∙ ap (λ (x : Thresholds). high_end (threshold_of x) x.count b.below) of_list

  pub placed : b.below ≤ t.count
  placed = subst (λ (x : Thresholds). b.below ≤ x.count) of_list b.within

  -- no threshold of its list lies inside a band
  pub clear : Clear (threshold_of t) t.count b.low b.high
  clear = record { side = λ j l. rw (begins, ends) (side_of (threshold_of t) t.count r.rises b.below j placed l (dec_le b.below j)) }

  -- the thresholds at or below an envelope's band are the first of them
  pub sides : (q : ℕ) → b.low ≤ q → q < b.high → (j : ℕ) → j < t.count → leb (threshold_of t j) b.low ≡ ltb j b.below
  sides q f h j l = grind (arith, nat_tests, begins, ends, placed, ends_at (threshold_of t) t.count b.below, r.rises b.below j, under (threshold_of t) t.count r.rises b.below j)

-- no envelope is below 0, so a band that begins above it is not the lowest
pub some_below : (b : Band) (q : ℕ) → q < b.low → 0 < b.below
some_below b q l = grind (arith, b.begins, from_none (threshold_of b.list.now) b.below)

-- and none comes to the end of the last band
pub some_above : (b : Band) (q : ℕ) → b.high ≤ q → q ≤ 2 ^ 40 → b.below < b.list.now.count
some_above b q l m = grind (arith, b.ends, ends_nowhere (threshold_of b.list.now) b.list.now.count b.below)
