-- The built-in list, and what a list that loads is.
use mathlib.Core.Bool.{Bool, true, false, ◌||◌}
use mathlib.Core.Logic.{⊎_elim}
use mathlib.Core.Path.{◌≡◌, refl, sym, ap, ◌∙◌, subst}
use Prim.Native.Nat.{ℕ, zero, suc, ◌+◌, ◌-◌, ◌*◌, ◌^◌, ◌≤◌, ◌<◌}
use native.Mathlib.Nat.{le_of_eq, le_trans, add-zero, two-pow-succ}
use native.Mathlib.Omega.{arith}
use lib.ListN.{get_or-eq_default}
use Rattle.std.proofs.lemmas.Bool.{cases_lt, or_parts}
use Rattle.std.proofs.lemmas.Bool.Decides.{nat_tests}
use Rattle.refusal.specs.First.{first_of}
use Rattle.thresholds.specs.declared.Thresholds.{Thresholds}
use Rattle.thresholds.specs.Lists.{places, fewest, threshold_of, doubled, built_in_count, built_in_list, wrong_length, wrong_entry, wrong_end, wrong_pair, filled, list_rules, unloadable}
use Rattle.thresholds.specs.Rising.{Rising}
use Rattle.thresholds.specs.Places.{some_below, some_from, each, list_from, up_to}
use Rattle.thresholds.proofs.Below.{each_below, each_from}
use Rattle.thresholds.proofs.Places.{list_length, each_at, up_to_past, filled_at}

pub doubled_is : (j : ℕ) → doubled j ≡ 2 ^ (j + 24)
unfolding doubled
doubled_is zero = refl
doubled_is (suc j) =
    let e : 2 * doubled j ≡ 2 ^ suc (j + 24) = omega (arith, doubled_is j, two-pow-succ (j + 24)) in
    e ∙ ap (λ (k : ℕ). 2 ^ k) (omega arith)

-- the built-in list is document 01's: c_j is 2^(j + 24)
pub built_in_is : (j : ℕ) → j < built_in_count → threshold_of built_in_list j ≡ 2 ^ (j + 24)
unfolding built_in_list
built_in_is j l = filled_at places built_in_count doubled j (omega arith) l ∙ doubled_is j

-- and past its end there are zeros
pub built_in_past : (j : ℕ) → built_in_count ≤ j → threshold_of built_in_list j ≡ 0
unfolding built_in_list
built_in_past j l =
    let at = each places (up_to built_in_count doubled) in
    ⊎_elim (λ h. each_at 0 places (up_to built_in_count doubled) j h ∙ up_to_past built_in_count doubled j l)
    (λ h. get_or-eq_default at 0 (omega (arith, list_length (up_to built_in_count doubled) 0 places))) (cases_lt j places)

pub built_in_count_lem : built_in_list.count ≡ built_in_count
unfolding built_in_list
built_in_count_lem = refl

-- and it loads
pub built_in_loads : unloadable built_in_list ≡ false
unfolding unloadable wrong_length wrong_entry wrong_end built_in_list doubled up_to some_below some_from list_from
built_in_loads = refl

-- ---- a list that loads

-- by the number that opening gives
pub accepted_loads : (t : Thresholds) → 0 ≡ first_of (list_rules t) → false ≡ unloadable t
unfolding list_rules unloadable first_of
accepted_loads t e = grind (arith, nat_tests)

pub refused_unloadable : (k : ℕ) (t : Thresholds) → 0 < k → k ≡ first_of (list_rules t) → true ≡ unloadable t
unfolding list_rules unloadable first_of
refused_unloadable k t l e = grind (arith, nat_tests)

pub record Loaded (t : Thresholds) : Type 0 where
  pub least : fewest ≤ t.count
  pub most : t.count ≤ places
  pub rises : (j : ℕ) → j + 1 < t.count → threshold_of t j < threshold_of t (j + 1)
  pub first_least : 2 ^ 22 ≤ threshold_of t 0
  pub last_most : threshold_of t (t.count - 1) ≤ 2 ^ 39
  pub zero_past : (j : ℕ) → t.count ≤ j → j < places → threshold_of t j ≡ 0

abbrev pair_at : Thresholds → ℕ → Bool
pair_at t j = wrong_pair (threshold_of t j) (threshold_of t (j + 1))

pub length_in : (t : Thresholds) → wrong_length t ≡ false → (fewest ≤ t.count) × (t.count ≤ places)
unfolding wrong_length
length_in t u = grind (arith, nat_tests)

past_in : (t : Thresholds) → wrong_length t ≡ false → (j : ℕ) → t.count ≤ j → j < places → threshold_of t j ≡ 0
unfolding wrong_length
past_in t u j l h = grind (arith, nat_tests, each_from t.count places (filled t))

entries_in : (t : Thresholds) → wrong_entry t ≡ false → (j : ℕ) → j + 1 < t.count → threshold_of t j < threshold_of t (j + 1)
unfolding wrong_entry
entries_in t u j h = let p = each_below (t.count - 1) (pair_at t) u j (omega arith) in grind (arith, nat_tests)

ends_in : (t : Thresholds) → wrong_end t ≡ false → (2 ^ 22 ≤ threshold_of t 0) × (threshold_of t (t.count - 1) ≤ 2 ^ 39)
unfolding wrong_end
ends_in t u = grind (arith, nat_tests)

pub loaded : (t : Thresholds) → unloadable t ≡ false → Loaded t
unfolding unloadable
loaded t u =
    let n = or_parts (wrong_length t) (wrong_entry t || wrong_end t) u in
    let m = or_parts (wrong_entry t) (wrong_end t) n.1 in
    record {
      least = (length_in t n.0).0;
      most = (length_in t n.0).1;
      rises = entries_in t m.0;
      first_least = (ends_in t m.1).0;
      last_most = (ends_in t m.1).1;
      zero_past = past_in t n.0;
    }

climbs : (t : Thresholds) → Loaded t → (i d : ℕ) → i + d < t.count → threshold_of t i ≤ threshold_of t (i + d)
climbs t l i zero h = le_of_eq (ap (threshold_of t) (sym (add-zero i)))
climbs t l i (suc d) h =
    let e : i + d + 1 ≡ i + suc d = omega arith in
    le_trans (climbs t l i d (omega arith)) (subst (λ (x : ℕ). threshold_of t (i + d) ≤ threshold_of t x) e (omega (arith, l.rises (i + d) (omega arith))))

pub rising : (t : Thresholds) → Loaded t → Rising t
rising t l =
    record {
      some = omega (arith, l.least);
      few = l.most;
      rises = λ i j h k. let e : i + (j - i) ≡ j = omega arith in subst (λ (x : ℕ). threshold_of t i ≤ threshold_of t x) e (climbs t l i (j - i) (omega arith));
    }

-- every threshold of a list that loads is from 2^22 to 2^39
pub within : (t : Thresholds) → Loaded t → (j : ℕ) → j < t.count → (2 ^ 22 ≤ threshold_of t j) × (threshold_of t j ≤ 2 ^ 39)
within t l j h =
    let r = rising t l in
    (le_trans l.first_least (r.rises 0 j (omega arith) h), le_trans (r.rises j (t.count - 1) (omega arith) (omega arith)) l.last_most)
