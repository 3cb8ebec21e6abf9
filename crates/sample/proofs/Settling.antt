-- Settling counters: a place at a time, twice over, and what the counters then stand for.
use mathlib.Core.Bool.{Bool, cond, true, false, ◌||◌}
use mathlib.Core.List.{List, [], ◌∷◌}
use mathlib.Core.Path.{◌≡◌, refl, sym, ap, ◌∙◌, subst}
use Prim.Native.Nat.{ℕ, zero, suc, ◌+◌, ◌-◌, ◌^◌, ◌≤◌, ◌<◌}
use native.Mathlib.Omega.{arith}
use lib.Dec.{eqb, ltb}
use lib.ListN.{length, get_or, set}
use lib.Seq.{get_or-set_same, get_or-set_other}
use Rattle.std.proofs.lemmas.Bool.Decides.{nat_tests}
use Rattle.level.specs.declared.Samples.{Samples}
use Rattle.level.specs.Types.{samples_of, activity}
use Rattle.thresholds.specs.Lists.{places}
use Rattle.sample.specs.declared.counters.Counters.{Counters}
use Rattle.sample.specs.Inner.Counters.{Standing, SettledAt, Settled}
use Rattle.sample.specs.Inner.Over.{count_over, hangover_over, between}
use Rattle.sample.proofs.Over.{no_count_lem, no_hangover, count_over_le, hangover_over_le}

-- ---- places

outside : (from to j : ℕ) → ((from ≤ j) × (j < to) → ⊥) → between from to j ≡ false
unfolding between
outside from to j f = grind (arith, nat_tests)

-- a threshold that was not crossed, either way, is still on the same side
pub uncrossed : (was is j : ℕ) → between was is j || between is was j ≡ false → ltb j was ≡ ltb j is
unfolding between
uncrossed was is j e = grind (arith, nat_tests)

-- those below a place and those from it on are all
pub all_places : (was k j : ℕ) → j < k → between 0 was j || between was k j ≡ true
unfolding between
all_places was k j l = grind (arith, nat_tests)

-- ---- a turn of the loop

set_at : {A : Type 0} (l : List A) (j i : ℕ) (v e : A) → j < length l → get_or (set l j v) i e ≡ cond (eqb i j) v (get_or l i e)
set_at l j i v e b = grind (arith, nat_tests, get_or-set_same l j v e, get_or-set_other l j i v e)

pub none_yet : (at from : ℕ) (on : Bool) (c : Counters) → length c.a ≡ places → length c.h ≡ places → Settled at (λ j. between from from j) (λ _. on) c c
none_yet at from on c la lh =
    record {
      a_length = la;
      h_length = lh;
      same = refl;
      each_one = λ j.
          subst (λ (b : Bool). SettledAt c.i at b on (activity c.a j) (get_or c.h j 0) (get_or c.since j 0) (activity c.a j) (get_or c.h j 0) (get_or c.since j 0)) (sym (outside from from j (λ b. omega (arith, b.0, b.1))))
          (record { count = refl; hangover = refl; index = refl });
    }

module _ (at from : ℕ) (on : Bool) (c d : Counters) (j : ℕ) (l : from ≤ j) (b : j < places) (so_far : Settled at (λ i. between from j i) (λ _. on) c d) where
  -- the place is as it was
  pub untouched : SettledAt c.i at false on (activity c.a j) (get_or c.h j 0) (get_or c.since j 0) (activity d.a j) (get_or d.h j 0) (get_or d.since j 0)
  untouched =
      subst (λ (t : Bool). SettledAt c.i at t on (activity c.a j) (get_or c.h j 0) (get_or c.since j 0) (activity d.a j) (get_or d.h j 0) (get_or d.since j 0)) (outside from j j (λ b. omega (arith, b.1))) (so_far.each_one j)

  module _ (ls : length d.since ≡ places) (v : Samples) (w : ℕ)
      (ev : v.0 ≡ count_over d.i on (at - get_or d.since j 0) (activity d.a j) (get_or d.h j 0)) (ew : w ≡ hangover_over d.i on (at - get_or d.since j 0) (get_or d.h j 0)) where
    pub one_more : (i : ℕ)
        → SettledAt c.i at (between from (j + 1) i) on (activity c.a i) (get_or c.h i 0) (get_or c.since i 0) (activity (set d.a j v) i) (get_or (set d.h j w) i 0) (get_or (set d.since j at) i 0)
    unfolding between
    one_more i =
        let u = untouched in
        let p = so_far.each_one i in
        record {
          count = grind (arith, nat_tests, ap (λ (n : Samples). n.0) (set_at d.a j i v (samples_of 0) (omega (arith, so_far.a_length))), p.count, u.count, u.hangover, u.index, so_far.same, so_far.a_length);
          hangover = grind (arith, nat_tests, set_at d.h j i w 0, p.hangover, u.hangover, u.index, so_far.same, so_far.h_length);
          index = grind (arith, nat_tests, set_at d.since j i at 0, p.index);
        }

-- no hangover is above the limit
set_le : (l : List ℕ) (j v b : ℕ) → ((i : ℕ) → get_or l i 0 ≤ b) → v ≤ b → (i : ℕ) → get_or (set l j v) i 0 ≤ b
set_le [] j v b f h i = f i
set_le (x ∷ l) zero v b f h zero = h
set_le (x ∷ l) zero v b f h (suc i) = f (suc i)
set_le (x ∷ l) (suc j) v b f h zero = f 0
set_le (x ∷ l) (suc j) v b f h (suc i) = set_le l j v b (λ k. f (suc k)) h i

pub hung_within : (c : Counters) (on : Bool) (run j w : ℕ) → w ≡ hangover_over c.i on run (get_or c.h j 0) → (i : ℕ) → get_or (set c.h j w) i 0 ≤ c.i
hung_within c on run j w e = set_le c.h j w c.i c.h_max (subst (λ (x : ℕ). x ≤ c.i) (sym e) (hangover_over_le c.i on run (get_or c.h j 0) (c.h_max j)))

-- the places, and the side on which the envelope was at each of them, may be told in another way
told_at : (I at : ℕ) (one other on₁ on : Bool) (a h s a' h' s' : ℕ) → one ≡ other → (one ≡ true → on₁ ≡ on) → SettledAt I at one on₁ a h s a' h' s' → SettledAt I at other on a h s a' h' s'
told_at I at one other on₁ on a h s a' h' s' e f p =
    record { count = grind (arith, nat_tests, p.count); hangover = grind (arith, nat_tests, p.hangover); index = grind (arith, nat_tests, p.index) }

pub by_places : (at : ℕ) (one other on₁ on : ℕ → Bool) (c d : Counters) → ((j : ℕ) → one j ≡ other j) → ((j : ℕ) → one j ≡ true → on₁ j ≡ on j)
    → Settled at one on₁ c d → Settled at other on c d
by_places at one other on₁ on c d e f p =
    record { a_length = p.a_length; h_length = p.h_length; same = p.same; each_one = λ j. told_at c.i at (one j) (other j) (on₁ j) (on j) _ _ _ _ _ _ (e j) (f j) (p.each_one j) }

-- ---- twice

twice_at : (I at : ℕ) (one two on₁ on₂ on : Bool) (a h s a₁ h₁ s₁ a₂ h₂ s₂ : ℕ)
    → (one ≡ true → two ≡ false) → (one ≡ true → on₁ ≡ on) → (two ≡ true → on₂ ≡ on)
    → SettledAt I at one on₁ a h s a₁ h₁ s₁ → SettledAt I at two on₂ a₁ h₁ s₁ a₂ h₂ s₂ → SettledAt I at (one || two) on a h s a₂ h₂ s₂
twice_at I at one two on₁ on₂ on a h s a₁ h₁ s₁ a₂ h₂ s₂ f g k p q =
    record {
      count = grind (arith, nat_tests, p.count, p.hangover, p.index, q.count);
      hangover = grind (arith, nat_tests, p.hangover, p.index, q.hangover);
      index = grind (arith, nat_tests, p.index, q.index);
    }

pub twice : (at : ℕ) (one two on₁ on₂ on : ℕ → Bool) (c d e : Counters)
    → ((j : ℕ) → one j ≡ true → two j ≡ false) → ((j : ℕ) → one j ≡ true → on₁ j ≡ on j) → ((j : ℕ) → two j ≡ true → on₂ j ≡ on j)
    → Settled at one on₁ c d → Settled at two on₂ d e → Settled at (λ j. one j || two j) on c e
twice at one two on₁ on₂ on c d e f g o p q =
    record {
      a_length = q.a_length;
      h_length = q.h_length;
      same = q.same ∙ p.same;
      each_one = λ j.
          twice_at c.i at (one j) (two j) (on₁ j) (on₂ j) (on j) _ _ _ _ _ _ _ _ _ (f j) (g j) (o j) (p.each_one j)
          (subst (λ (i : ℕ). SettledAt i at (two j) (on₂ j) (activity d.a j) (get_or d.h j 0) (get_or d.since j 0) (activity e.a j) (get_or e.h j 0) (get_or e.since j 0)) p.same (q.each_one j));
    }

-- ---- what a settled counter stands for, whatever side of its threshold the envelope is on from there on

pub stands_count : (I at : ℕ) (one on is : Bool) (a h s a' h' s' : ℕ) → SettledAt I at one on a h s a' h' s' → (one ≡ false → on ≡ is)
    → count_over I is (at - s') a' h' ≡ count_over I on (at - s) a h
stands_count I at one on is a h s a' h' s' p f = grind (arith, nat_tests, p.count, p.hangover, p.index, no_count_lem I is (at - s') a' h')

pub stands_hangover : (I at : ℕ) (one on is : Bool) (a h s a' h' s' : ℕ) → SettledAt I at one on a h s a' h' s' → (one ≡ false → on ≡ is)
    → hangover_over I is (at - s') h' ≡ hangover_over I on (at - s) h
stands_hangover I at one on is a h s a' h' s' p f = grind (arith, nat_tests, p.hangover, p.index, no_hangover I is (at - s') h')

-- ---- bounds of a settled counter, where it was at most n more than its index

pub index_le : (I at : ℕ) (one on : Bool) (a h s a' h' s' : ℕ) → SettledAt I at one on a h s a' h' s' → s ≤ at → s' ≤ at
index_le I at one on a h s a' h' s' p l = grind (arith, nat_tests, p.index)

pub count_le : (I at : ℕ) (one on : Bool) (a h s a' h' s' : ℕ) → SettledAt I at one on a h s a' h' s' → (n : ℕ) → s ≤ at → a ≤ n + s → a' ≤ n + s'
count_le I at one on a h s a' h' s' p n l b = grind (arith, nat_tests, p.index, p.count, count_over_le I on (at - s) a h)

-- ---- settled counters can be settled again

room_at : (I at : ℕ) (one on : Bool) (a h s a' h' s' : ℕ) → SettledAt I at one on a h s a' h' s' → a + (at - s) < 2 ^ 63 → a' + (at - s') < 2 ^ 63
room_at I at one on a h s a' h' s' p b = grind (arith, nat_tests, p.index, p.count, count_over_le I on (at - s) a h)

pub still_standing : (at : ℕ) (one on : ℕ → Bool) (c d : Counters) → Standing at c → Settled at one on c d → Standing at d
still_standing at one on c d p q =
    record {
      index = λ j. index_le c.i at (one j) (on j) _ _ _ _ _ _ (q.each_one j) (p.index j);
      room = λ j. room_at c.i at (one j) (on j) _ _ _ _ _ _ (q.each_one j) (p.room j);
    }
