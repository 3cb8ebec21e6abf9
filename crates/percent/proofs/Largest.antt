-- The largest number up to k at which a test holds: the search gives it, and there is only one. Where the test does not hold again once it has
-- failed, two neighbours tell which it is, and halving finds it.
use mathlib.Core.Bool.{Bool, true, false, ◌&&◌}
use mathlib.Core.Path.{◌≡◌}
use Prim.Native.Nat.{ℕ, zero, suc, ◌+◌, ◌/◌, ◌^◌, ◌≤◌, ◌<◌}
use native.Mathlib.Nat.{le_antisymm, lt_of_not-le, two-pow-succ}
use native.Mathlib.Omega.{arith}
use lib.Dec.{leb}
use Rattle.std.proofs.lemmas.Bool.Decides.{nat_tests}
use Rattle.percent.specs.Percent.{largest_up_to, Largest}

-- ---- any test

pub largest_of : (f : ℕ → Bool) (k : ℕ) → Largest f k (largest_up_to f k)
unfolding largest_up_to
largest_of f zero = record { at_most = omega arith; holds = λ h. absurd (omega arith); none_larger = λ U l u. absurd (omega arith) }
largest_of f (suc k) =
    let L = largest_of f k in
    record {
      at_most = grind (arith, nat_tests, L.at_most);
      holds = λ h. grind (arith, nat_tests, L.holds);
      none_larger = λ U l u. grind (arith, nat_tests, L.none_larger);
    }

-- where g holds wherever f does, the largest of g is not below that of f
pub grows : {f g : ℕ → Bool} {k T U : ℕ} → ((i : ℕ) → 1 ≤ i → i ≤ k → f i ≡ true → g i ≡ true) → Largest f k T → Largest g k U → T ≤ U
grows {f} {g} {k} {T} {U} also L M = omega (arith, lt_of_not-le {n = suc U} {m = T} above)
  where
    above : U < T → ⊥
    above l =
        let holds = also T (omega arith) L.at_most (L.holds (omega arith)) in
        let fails = M.none_larger T l L.at_most in
        cc

pub only : {f : ℕ → Bool} {k T U : ℕ} → Largest f k T → Largest f k U → T ≡ U
only L M = le_antisymm (grows (λ i h u e. e) L M) (grows (λ i h u e. e) M L)

-- ---- a test that does not hold again

abbrev pub Falls : (ℕ → Bool) → ℕ → Type 0
Falls f k = (T U : ℕ) → 1 ≤ T → T ≤ U → U ≤ k → f U ≡ true → f T ≡ true

module _ {f : ℕ → Bool} {k : ℕ} (falls : Falls f k) where
  fails_on : (T U : ℕ) → 1 ≤ T → T ≤ U → U ≤ k → f T ≡ false → f U ≡ false
  fails_on T U h l u e = grind (arith, falls T U h l u)

  -- it holds at T, and not at the next
  pub by_neighbours : (T : ℕ) → T ≤ k → (1 ≤ T → f T ≡ true) → (T < k → f (T + 1) ≡ false) → Largest f k T
  by_neighbours T r h n =
      record { at_most = r; holds = h; none_larger = λ U l u. fails_on (T + 1) U (omega arith) (omega arith) u (n (omega arith)) }

-- ---- halving: it holds at low, or low is 0, and from low + width on it does not; width is a power of two

pub record Halving (f : ℕ → Bool) (k low width : ℕ) : Type 0 where
  pub at_most : low ≤ k
  pub holds : 1 ≤ low → f low ≡ true
  pub none_from : (U : ℕ) → low + width ≤ U → U ≤ k → f U ≡ false
  pub places : ℕ
  pub power : width ≡ 2 ^ places

pub begun : (f : ℕ → Bool) (k width p : ℕ) → k < width → width ≡ 2 ^ p → Halving f k 0 width
begun f k width p h e =
    record { at_most = omega arith; holds = λ l. absurd (omega arith); none_from = λ U l u. absurd (omega arith); places = p; power = e }

-- half of a power of two that is above 1
record Half (width : ℕ) : Type 0 where
  places : ℕ
  power : width / 2 ≡ 2 ^ places
  twice : width / 2 + width / 2 ≡ width

half : (width p : ℕ) → width ≡ 2 ^ p → 1 < width → Half width
half width zero e h = absurd (omega arith)
half width (suc p) e h = record { places = p; power = omega (arith, two-pow-succ p); twice = omega (arith, two-pow-succ p) }

pub ended : {f : ℕ → Bool} {k low width : ℕ} → Halving f k low width → width ≤ 1 → Largest f k low
ended H h = record { at_most = H.at_most; holds = H.holds; none_larger = λ U l u. H.none_from U (omega arith) u }

-- one turn: whether low + width/2 is in range and the test holds there
module _ {f : ℕ → Bool} {k low width : ℕ} (falls : Falls f k) (H : Halving f k low width) (h : 1 < width) where
  pub up : leb (low + width / 2) k && f (low + width / 2) ≡ true → Halving f k (low + width / 2) (width / 2)
  up e =
      let w = half width H.places H.power h in
      record {
        at_most = grind (arith, nat_tests);
        holds = λ l. grind (arith, nat_tests);
        none_from = λ U l u. H.none_from U (omega (arith, w.twice)) u;
        places = w.places;
        power = w.power;
      }

  pub down : leb (low + width / 2) k && f (low + width / 2) ≡ false → Halving f k low (width / 2)
  down e =
      let w = half width H.places H.power h in
      record {
        at_most = H.at_most;
        holds = H.holds;
        none_from = λ U l u. let out = fails_on falls (low + width / 2) U (omega (arith, w.twice)) l u in grind (arith, nat_tests);
        places = w.places;
        power = w.power;
      }
