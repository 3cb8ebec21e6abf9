-- A meter that refusal 2 lets pass, and what is then known of it: the two are the same.
use mathlib.Core.Bool.{Bool, true, false, not, ◌&&◌}
use mathlib.Core.List.{List, [], ◌∷◌}
use mathlib.Core.Path.{◌≡◌, refl, sym, ap, ◌∙◌, subst}
use Prim.Native.Nat.{ℕ, min, zero, suc, ◌+◌, ◌-◌, ◌*◌, ◌≤◌, ◌<◌}
use native.Mathlib.Nat.{min-eq_left, le_of_eq, le_trans, add-zero}
use native.Mathlib.Numerals.{add-one}
use native.Mathlib.Omega.{arith}
use borrow.Author.Tests.{le-ltb, ltb-false, not-false}
use lib.Dec.{leb, ltb}
use lib.IntN.{nat_abs}
use lib.ListN.{get_or}
use Rattle.level.specs.Types.{most_samples, activity, two_words}
use Rattle.thresholds.specs.declared.Thresholds.{Thresholds}
use Rattle.thresholds.specs.Lists.{places, unloadable}
use Rattle.thresholds.proofs.Laws.{loaded}
use Rattle.std.proofs.lemmas.Bool.{or_parts, or_from}
use Rattle.thresholds.proofs.Below.{none_below, each_below, none_from, each_from}
use Rattle.rate.specs.Rates.{is_named}
use Rattle.setting.specs.Settings.{i_of, wrong_margin}
use Rattle.meter.specs.declared.Meter.{Meter}
use Rattle.possible.specs.Impossible.{sum_bound, square_bound, envelope_bound, many_samples, large_sum, large_squares, large_p, large_q, impossible_sums, long_hangover, large_count, rising_count, falling_hangover, impossible_counter, filled_counter}
use Rattle.meter.specs.Refusals.{unnamed_code, impossible}
use Rattle.possible.proofs.Below.{after_first, NoneOf, none_of, of_none}

pub record Possible (m : Meter) : Type 0 where
  pub named : is_named m.setting.code ≡ true
  pub list : unloadable m.setting.thresholds ≡ false
  pub margin : wrong_margin m.setting.margin.0 ≡ false
  pub n_max : m.state.sums.n.0 ≤ most_samples
  pub s_max : nat_abs m.state.sums.s ≤ m.state.sums.n.0 * sum_bound
  pub sq_max : two_words m.state.sums.sq ≤ m.state.sums.n.0 * square_bound
  pub p_max : m.state.sums.p ≤ envelope_bound
  pub q_max : m.state.sums.q ≤ envelope_bound
  pub h_max : (j : ℕ) → j < m.setting.thresholds.count → get_or m.state.h j 0 ≤ i_of m.setting
  pub a_max : (j : ℕ) → j < m.setting.thresholds.count → activity m.state.a j ≤ m.state.sums.n.0
  pub a_falls : (j : ℕ) → j + 1 < m.setting.thresholds.count → activity m.state.a (j + 1) ≤ activity m.state.a j
  pub h_rises : (j : ℕ) → j + 1 < m.setting.thresholds.count → get_or m.state.h j 0 ≤ get_or m.state.h (j + 1) 0
  pub a_past : (j : ℕ) → j < places → m.setting.thresholds.count ≤ j → activity m.state.a j ≤ 0
  pub h_past : (j : ℕ) → j < places → m.setting.thresholds.count ≤ j → get_or m.state.h j 0 ≤ 0

-- a list that loads has no more thresholds than places
pub places_read : (t : Thresholds) → unloadable t ≡ false → min t.count places ≡ t.count
places_read t e = min-eq_left (loaded t e).most

-- ---- two neighbours, where there are two

ordered : (k j : ℕ) (f : ℕ → ℕ → Bool) → j < k → ((i : ℕ) → i + 1 < k → f i (i + 1) ≡ false) → leb 1 j && f (j - 1) j ≡ false
ordered k zero f l h = refl
ordered k (suc j) f l h =
    after_first j (λ i. f i (suc j))
    ∙ ap (f j) (sym (add-one j))
    ∙ h j (subst (λ (x : ℕ). x < k) (sym (add-one j)) l)

in_order : (j : ℕ) (f : ℕ → ℕ → Bool) → leb 1 (j + 1) && f (j + 1 - 1) (j + 1) ≡ false → f j (j + 1) ≡ false
in_order j f e =
    ap (f j) (add-one j)
    ∙ sym (after_first j (λ i. f i (suc j)))
    ∙ ap (λ (x : ℕ). leb 1 x && f (x - 1) x) (sym (add-one j))
    ∙ e

-- ---- from the facts to the tests, and back

-- a count that rises from one place to another, and a hangover that falls
abbrev rises : Meter → ℕ → ℕ → Bool
rises m i j = ltb (activity m.state.a i) (activity m.state.a j)

abbrev falls : Meter → ℕ → ℕ → Bool
falls m i j = ltb (get_or m.state.h j 0) (get_or m.state.h i 0)

counter : Meter → ℕ → List Bool
counter m j = long_hangover (i_of m.setting) m.state j ∷ large_count m.state j ∷ rising_count m.state j ∷ falling_hangover m.state j ∷ []

pub passes : (m : Meter) → Possible m → impossible m ≡ false
unfolding impossible unnamed_code impossible_sums many_samples large_sum large_squares large_p large_q impossible_counter long_hangover large_count rising_count falling_hangover filled_counter NoneOf
passes m p =
    let k = m.setting.thresholds.count in
    of_none _ (
      ap not p.named,
      (
        p.list,
        (
          p.margin,
          (
            of_none _ (le-ltb _ _ p.n_max, (le-ltb _ _ p.s_max, (le-ltb _ _ p.sq_max, (le-ltb _ _ p.p_max, (le-ltb _ _ p.q_max, tt))))),
            (
              none_below k _ (λ j l.
                  of_none _ (
                    le-ltb _ _ (p.h_max j l),
                    (
                      le-ltb _ _ (p.a_max j l),
                      (ordered k j (rises m) l (λ i h. le-ltb _ _ (p.a_falls i h)), (ordered k j (falls m) l (λ i h. le-ltb _ _ (p.h_rises i h)), tt)),
                    ),
                  )),
              (none_from k places _ (λ j g l. or_from _ _ (le-ltb _ _ (p.a_past j l g)) (le-ltb _ _ (p.h_past j l g))), tt),
            ),
          ),
        ),
      ),
    )

pub possible : (m : Meter) → impossible m ≡ false → Possible m
unfolding impossible unnamed_code impossible_sums many_samples large_sum large_squares large_p large_q impossible_counter long_hangover large_count rising_count falling_hangover filled_counter NoneOf counter
possible m h =
    let n = none_of _ h in
    let k = m.setting.thresholds.count in
    let s = none_of _ n.1.1.1.0 in
    let c : (j : ℕ) → j < k → NoneOf (counter m j) = λ j l. none_of _ (each_below k _ n.1.1.1.1.0 j l) in
    let e : (j : ℕ) → j < places → k ≤ j → (ltb 0 (activity m.state.a j) ≡ false) × (ltb 0 (get_or m.state.h j 0) ≡ false) = λ j l g. or_parts _ _ (each_from k places _ n.1.1.1.1.1.0 j g l) in
    record {
      named = not-false _ n.0;
      list = n.1.0;
      margin = n.1.1.0;
      n_max = ltb-false _ _ s.0;
      s_max = ltb-false _ _ s.1.0;
      sq_max = ltb-false _ _ s.1.1.0;
      p_max = ltb-false _ _ s.1.1.1.0;
      q_max = ltb-false _ _ s.1.1.1.1.0;
      h_max = λ j l. ltb-false _ _ (c j l).0;
      a_max = λ j l. ltb-false _ _ (c j l).1.0;
      a_falls = λ j l. ltb-false _ _ (in_order j (rises m) (c (j + 1) l).1.1.0);
      h_rises = λ j l. ltb-false _ _ (in_order j (falls m) (c (j + 1) l).1.1.1.0);
      a_past = λ j l g. ltb-false _ _ (e j l g).0;
      h_past = λ j l g. ltb-false _ _ (e j l g).1;
    }

-- ---- counts that fall from each place to the next fall over any number of places

fall : (f : ℕ → ℕ) (n : ℕ) → ((j : ℕ) → j + 1 < n → f (j + 1) ≤ f j) → (i k : ℕ) → i + k < n → f (i + k) ≤ f i
fall f n h i zero l = le_of_eq (ap f (add-zero i))
fall f n h i (suc k) l =
    let s : i + suc k ≡ i + k + 1 = omega arith in
    subst (λ (x : ℕ). f x ≤ f i) (sym s) (le_trans (h (i + k) (omega arith)) (fall f n h i k (omega arith)))

pub falling : (m : Meter) → Possible m → (i j : ℕ) → i ≤ j → j < m.setting.thresholds.count → activity m.state.a j ≤ activity m.state.a i
falling m p i j h l =
    let s : i + (j - i) ≡ j = omega arith in
    subst (λ (x : ℕ). activity m.state.a x ≤ activity m.state.a i) s (fall (λ x. activity m.state.a x) m.setting.thresholds.count p.a_falls i (j - i) (omega arith))

-- ---- what the code asks of it

pub named_code : (m : Meter) → impossible m ≡ false → is_named m.setting.code ≡ true
named_code m e = (possible m e).named

pub few_samples : (m : Meter) → impossible m ≡ false → m.state.sums.n.0 ≤ most_samples
few_samples m e = (possible m e).n_max
