-- The search for the highest place at which a test holds: what is found lies in range and holds the test, which no higher place there does, and
-- where nothing is found no place does. So there is a highest such place wherever there is any.
use mathlib.Core.Bool.{Bool, true, false, cond, true≢false}
use borrow.Author.Count.{below_more}
use mathlib.Core.Path.{◌≡◌, refl, sym, ◌∙◌, subst}
use Prim.Native.Nat.{ℕ, zero, suc, ◌-◌, ◌<◌}
use native.Mathlib.Omega.{arith}
use Rattle.std.specs.Prelude.{Option, Some, None}
use Rattle.crossing.specs.Crossing.{highest_below}

-- the highest place below k at which f holds is p
pub record Highest (f : ℕ → Bool) (k p : ℕ) : Type 0 where
  pub place : p < k
  pub holds : f p ≡ true
  pub none_higher : (l : ℕ) → p < l → l < k → f l ≡ false

-- what a search found: that, or that it holds at none of them
Search : (f : ℕ → Bool) (k : ℕ) → Option ℕ → Type 0
Search f k None = (p : ℕ) → p < k → f p ≡ false
Search f k (Some p) = Highest f k p

later : (f : ℕ → Bool) (k : ℕ) (o : Option ℕ) → f k ≡ false → Search f k o → Search f (suc k) o
unfolding Search
later f k None e h = λ p u. below_more (λ l. f l ≡ false) k h e p (omega arith)
later f k (Some p) e h =
    record {
      place = omega (arith, h.place);
      holds = h.holds;
      none_higher = λ l m u. below_more (λ l. p < l → f l ≡ false) k (λ l u m. h.none_higher l m u) (λ m. e) l (omega arith) m;
    }

search_below : (f : ℕ → Bool) (k : ℕ) → Search f k (highest_below f k)
unfolding Search highest_below
search_below f zero = λ p u. absurd (omega arith)
search_below f (suc k) = go (f k) refl (search_below f k)
  where
    go : (t : Bool) → f k ≡ t → Search f k (highest_below f k) → Search f (suc k) (cond t (Some k) (highest_below f k))
    go true e h = record { place = omega arith; holds = e; none_higher = λ l m u. absurd (omega arith) }
    go false e h = later f k (highest_below f k) e h

pub found : (f : ℕ → Bool) (k p : ℕ) → highest_below f k ≡ Some p → Highest f k p
unfolding Search
found f k p e = subst (Search f k) e (search_below f k)

pub not_found : (f : ℕ → Bool) (k : ℕ) → highest_below f k ≡ None → (p : ℕ) → p < k → f p ≡ false
unfolding Search
not_found f k e = subst (Search f k) e (search_below f k)

-- one place at a time
pub step : (f : ℕ → Bool) (j : ℕ) → 0 < j → highest_below f j ≡ cond (f (j - 1)) (Some (j - 1)) (highest_below f (j - 1))
unfolding highest_below
step f zero l = absurd (omega arith)
step f (suc j) l = let e : suc j - 1 ≡ j = omega arith in rw e

-- from any place at which f holds the search finds the highest
pub highest : (f : ℕ → Bool) (k p : ℕ) → p < k → f p ≡ true → (q : ℕ) × Highest f k q
highest f k p l h = go (highest_below f k) refl
  where
    go : (o : Option ℕ) → highest_below f k ≡ o → (q : ℕ) × Highest f k q
    go None e = absurd (true≢false (sym h ∙ not_found f k e p l))
    go (Some q) e = (q, found f k q e)
