-- The loop over runs: how it stands, a turn of it, and its end.
use mathlib.Core.Bool.{Bool, false, cond, ◌||◌}
use mathlib.Core.List.{List}
use mathlib.Core.Path.{◌≡◌, ap, ap₂, ◌∙◌, subst, sym}
use Prim.Native.Nat.{ℕ, ◌+◌, ◌-◌, ◌^◌, ◌≤◌, ◌<◌, min}
use native.Mathlib.Nat.{le_refl, lt_of_le_of_lt}
use native.Mathlib.Omega.{arith}
use lib.Dec.{leb, ltb}
use lib.IntN.{ℤ, pos}
use lib.ListN.{length, get_or, drop}
use mir.Syntax.{w16}
use mir.Val.{SFits}
use Rattle.std.proofs.lemmas.Bool.Decides.{nat_tests}
use Rattle.level.specs.declared.Samples.{Samples}
use Rattle.level.specs.Types.{activity, most_samples}
use Rattle.thresholds.specs.declared.Thresholds.{Thresholds}
use Rattle.thresholds.specs.Lists.{places, threshold_of}
use Rattle.thresholds.specs.Rising.{Rising}
use Rattle.sample.specs.declared.Counting.{Counting}
use Rattle.sample.specs.declared.State.{State}
use Rattle.sample.specs.declared.Sums.{Sums}
use Rattle.sample.specs.declared.band.Band.{Band}
use Rattle.sample.specs.declared.counters.Counters.{Counters}
use Rattle.sample.specs.declared.step.Moving.{Moving}
use Rattle.sample.specs.Sample.{each, summed, state_after}
use Rattle.sample.specs.Inner.Counters.{SettledAt, Settled}
use Rattle.sample.specs.Inner.Over.{count_over, hangover_over, between}
use Rattle.sample.specs.Inner.Runs.{counts_by, hangovers_by, state_of, led, led_by, Ran}
use Rattle.sample.specs.Inner.Steps.{begun, moved, ended, Room}
use Rattle.sample.proofs.Bands.{clear, sides, placed}
use Rattle.thresholds.proofs.Places.{list_length, each_at, filled_same, is_filled_lem, at_or_past}
use Rattle.sample.proofs.Counts.{are_counts, counts_same}
use Rattle.sample.proofs.Over.{no_count_lem, no_hangover}
use Rattle.sample.specs.StateAfter.{Within}
use Rattle.sample.proofs.Moved.{ended_none, ended_at, up_to_end, room_first, room_less, room_after}
use Rattle.sample.proofs.Ran.{none_left, step_is}
use Rattle.sample.proofs.Settling.{uncrossed, all_places, stands_count, stands_hangover, index_le, count_le}

-- ---- past the end of the list nothing is settled

outside : (was is k j : ℕ) → was ≤ k → is ≤ k → k ≤ j → (between was is j || between is was j) ≡ false
unfolding between
outside was is k j l m g = grind (arith, nat_tests)

past_all : (was k j : ℕ) → was ≤ k → k ≤ j → (between 0 was j || between was k j) ≡ false
unfolding between
past_all was k j l g = grind (arith, nat_tests)

module _ (I at : ℕ) (one on : Bool) (a h s a' h' s' : ℕ) (S : SettledAt I at one on a h s a' h' s') (e : one ≡ false) where
  alone_count : a' ≡ a
  alone_count = grind (arith, nat_tests, S.count)

  alone_hangover : h' ≡ h
  alone_hangover = grind (arith, nat_tests, S.hangover)

-- ---- the loop

-- at index at: m is what the sample there left, and each counter stands for the envelope's band. The state was s before the samples
pub record Turning (by : Counting) (T : Thresholds) (s : State) (xs : List ℤ) (c : Counters) (m : Moving) (band : Band) (at : ℕ) : Type 0 where
  pub within : at ≤ length xs
  pub room : Room (length xs - (at + 1)) m
  pub list : Rising T
  pub of_list : band.list.now ≡ T
  pub from : band.low ≤ m.q
  pub to : m.q < band.high
  pub limit : c.i ≡ by.i
  pub index : (j : ℕ) → get_or c.since j 0 ≤ at
  pub a_max : (j : ℕ) → activity c.a j ≤ s.sums.n.0 + get_or c.since j 0
  pub a_past : (j : ℕ) → T.count ≤ j → activity c.a j ≡ 0
  pub h_past : (j : ℕ) → T.count ≤ j → get_or c.h j 0 ≡ 0
  pub rest : led_by by T s.sums m band.low at c.since c.a c.h xs ≡ state_after by T s xs

-- ---- the start

-- each counter stands as it was at index 0
zeros : List ℕ
zeros = each places (λ _. 0)

zeros_at : (j : ℕ) → get_or zeros j 0 ≡ 0
unfolding zeros
zeros_at j = omega (arith, at_or_past (each places (λ _. 0)) places 0 (list_length _ 0 places) (λ i l. omega (arith, each_at {A = ℕ} 0 places (λ _. 0) i l)) j)

module _ (T : Thresholds) (I Q : ℕ) (a : List Samples) (h : List ℕ) (la : places ≡ length a) (lh : places ≡ length h) (pa : (j : ℕ) → T.count ≤ j → activity a j ≡ 0) (ph : (j : ℕ) → T.count ≤ j → get_or h j 0 ≡ 0) where
  none_since : (j : ℕ) → 0 - get_or zeros j 0 ≡ 0
  none_since j = omega (arith, zeros_at j)

  at_first_counts : a ≡ counts_by (threshold_of T) T.count I Q 0 zeros a h
  unfolding counts_by
  at_first_counts = are_counts T.count a _ la (λ j l. sym (no_count_lem I (leb (threshold_of T j) Q) _ (activity a j) (get_or h j 0) (none_since j))) pa

  at_first_hangovers : h ≡ hangovers_by (threshold_of T) T.count I Q 0 zeros h
  unfolding hangovers_by
  at_first_hangovers = is_filled_lem places T.count h _ lh (λ j l. sym (no_hangover I (leb (threshold_of T j) Q) _ (get_or h j 0) (none_since j))) ph

-- bounded in the list, and zero past it
within_bound : (f : ℕ → ℕ) (k b : ℕ) → ((j : ℕ) → j < k → f j ≤ b) → ((j : ℕ) → k ≤ j → f j ≡ 0) → (j : ℕ) → f j ≤ b
within_bound f k b l z j = grind (arith, l j, z j)

-- what the first sample left
pub record First (by : Counting) (T : Thresholds) (s : State) (xs : List ℤ) (m : Moving) : Type 0 where
  pub within : Within by T (length xs) s
  pub some : 0 < length xs
  pub offset_fits : SFits w16 by.offset
  pub first_fits : SFits w16 (get_or xs 0 (pos 0))
  pub is : m ≡ moved by (begun s.sums) (get_or xs 0 (pos 0))

-- there is room for the other samples, and the loop can start
module _ (by : Counting) (T : Thresholds) (s : State) (xs : List ℤ) (m : Moving) (p : First by T s xs m) where
  w : Within by T (length xs) s
  w = p.within

  pub first_room : Room (length xs - 1) m
  first_room =
      room_after by (begun s.sums) m _ 0 (length xs) p.some (record { k_max = w.k_max; offset_fits = p.offset_fits }) p.first_fits p.is
      (room_less _ _ (begun s.sums) (omega (arith, p.some)) (room_first s.sums _ w.sums w.room w.few))

  pub started : (c : Counters) (band : Band) → band.list.now ≡ T → band.low ≤ m.q → m.q < band.high → s.sums.sq.low < 2 ^ 64
      → places ≡ length c.a → places ≡ length c.h → c.a ≡ s.a → c.h ≡ s.h → c.since ≡ each places (λ _. 0) → c.i ≡ by.i
      → Turning by T s xs c m band 0
  unfolding zeros
  started c band of_list from to fits la lh same_a same_h none limit =
      record {
        within = omega arith;
        room = first_room;
        list = w.list;
        of_list = of_list;
        from = from;
        to = to;
        limit = limit;
        index = λ j. omega (arith, ap (λ (l : List ℕ). get_or l j 0) none, zeros_at j);
        a_max = λ j. omega (arith, within_bound (activity c.a) T.count s.sums.n.0 (λ i l. omega (arith, count i, w.a_max i l)) past j);
        a_past = past;
        h_past = past_h;
        rest =
            ap (λ (z : List ℕ). led_by by T s.sums m band.low 0 z c.a c.h xs) none
            ∙ ap₂ (λ (x : List Samples) (y : List ℕ). led by T (ended s.sums m (min (0 + 1) (length xs))) x y xs) (sym (at_first_counts T by.i band.low c.a c.h la lh past past_h)) (sym (at_first_hangovers T by.i band.low c.a c.h la lh past past_h))
            ∙ sym (step_is by T s.sums (ended s.sums m (min (0 + 1) (length xs))) c.a c.h xs 0 p.some
            (ended_at by s.sums (begun s.sums) m _ 0 (length xs) p.some p.is ∙ ap (λ (t : Sums). summed by t (get_or xs 0 (pos 0))) (ended_none s.sums fits)))
            ∙ ap (λ (x : State). state_after by T x xs) same;
      }
    where
      count : (j : ℕ) → activity c.a j ≡ activity s.a j
      count j = ap (λ (l : List Samples). activity l j) same_a

      past : (j : ℕ) → T.count ≤ j → activity c.a j ≡ 0
      past j l = count j ∙ w.a_past j l

      past_h : (j : ℕ) → T.count ≤ j → get_or c.h j 0 ≡ 0
      past_h j l = ap (λ (x : List ℕ). get_or x j 0) same_h ∙ w.h_past j l

      same : state_of s.sums c.a c.h ≡ s
      same = ap₂ (λ (x : List Samples) (y : List ℕ). record { sums = s.sums; a = x; h = y }) same_a same_h

module _ (by : Counting) (T : Thresholds) (s : State) (xs : List ℤ) (c : Counters) (m : Moving) (band : Band) (at : ℕ) (t : Turning by T s xs c m band at)
    (all : s.sums.n.0 + length xs ≤ most_samples) where
  -- which thresholds the band is above
  reached : (j : ℕ) → j < T.count → leb (threshold_of T j) band.low ≡ ltb j band.below
  reached = sides T band t.of_list t.list m.q t.from t.to

  -- a settled counter, by the same limit
  module _ (end : ℕ) (one on : ℕ → Bool) (d : Counters) (S : Settled end one on c d) where
    settled_at : (j : ℕ) → SettledAt by.i end (one j) (on j) (activity c.a j) (get_or c.h j 0) (get_or c.since j 0) (activity d.a j) (get_or d.h j 0) (get_or d.since j 0)
    settled_at j = subst (λ (i : ℕ). SettledAt i end (one j) (on j) (activity c.a j) (get_or c.h j 0) (get_or c.since j 0) (activity d.a j) (get_or d.h j 0) (get_or d.since j 0)) t.limit (S.each_one j)

  -- ---- a turn

  module _ (r : Moving) (end : ℕ) (next : Band) (R : Ran by band.low band.high m xs at r end) (of_list : next.list.now ≡ T) (from : next.low ≤ r.q) (to : r.q < next.high)
      (d : Counters) (S : Settled end (λ j. between band.below next.below j || between next.below band.below j) (λ j. ltb j band.below) c d) where
    one : (j : ℕ) → SettledAt by.i end (between band.below next.below j || between next.below band.below j) (ltb j band.below)
        (activity c.a j) (get_or c.h j 0) (get_or c.since j 0) (activity d.a j) (get_or d.h j 0) (get_or d.since j 0)
    one = settled_at end _ _ d S

    same_counts : counts_by (threshold_of T) T.count by.i next.low end d.since d.a d.h ≡ counts_by (threshold_of T) T.count by.i band.low end c.since c.a c.h
    unfolding counts_by
    same_counts =
        counts_same T.count _ _ (λ j l.
        ap (λ (o : Bool). count_over by.i o (end - get_or d.since j 0) (activity d.a j) (get_or d.h j 0)) (sides T next of_list t.list r.q from to j l)
        ∙ stands_count by.i end _ _ _ (activity c.a j) (get_or c.h j 0) (get_or c.since j 0) (activity d.a j) (get_or d.h j 0) (get_or d.since j 0) (one j) (uncrossed band.below next.below j)
        ∙ ap (λ (o : Bool). count_over by.i o (end - get_or c.since j 0) (activity c.a j) (get_or c.h j 0)) (sym (reached j l)))

    same_hangovers : hangovers_by (threshold_of T) T.count by.i next.low end d.since d.h ≡ hangovers_by (threshold_of T) T.count by.i band.low end c.since c.h
    unfolding hangovers_by
    same_hangovers =
        filled_same places T.count _ _ (λ j l.
        ap (λ (o : Bool). hangover_over by.i o (end - get_or d.since j 0) (get_or d.h j 0)) (sides T next of_list t.list r.q from to j l)
        ∙ stands_hangover by.i end _ _ _ (activity c.a j) (get_or c.h j 0) (get_or c.since j 0) (activity d.a j) (get_or d.h j 0) (get_or d.since j 0) (one j) (uncrossed band.below next.below j)
        ∙ ap (λ (o : Bool). hangover_over by.i o (end - get_or c.since j 0) (get_or c.h j 0)) (sym (reached j l)))

    unmoved : (j : ℕ) → T.count ≤ j → (between band.below next.below j || between next.below band.below j) ≡ false
    unmoved j l = outside band.below next.below T.count j (placed T band t.of_list t.list) (placed T next of_list t.list) l

    pub turned : Turning by T s xs d r next end
    turned =
        record {
          within = R.within;
          room = R.room;
          list = t.list;
          of_list = of_list;
          from = from;
          to = to;
          limit = S.same ∙ t.limit;
          index = λ j. index_le by.i end _ _ _ _ _ _ _ _ (one j) (before j);
          a_max = λ j. count_le by.i end _ _ _ _ _ _ _ _ (one j) s.sums.n.0 (before j) (t.a_max j);
          a_past = λ j l. alone_count by.i end _ _ _ _ _ _ _ _ (one j) (unmoved j l) ∙ t.a_past j l;
          h_past = λ j l. alone_hangover by.i end _ _ _ _ _ _ _ _ (one j) (unmoved j l) ∙ t.h_past j l;
          rest =
              ap₂ (λ (x : List Samples) (y : List ℕ). led by T (ended s.sums r (min (end + 1) (length xs))) x y (drop end xs)) same_counts same_hangovers
              ∙ sym (R.same T t.list.few s.sums band.low c.since c.a c.h (le_refl band.low) (lt_of_le_of_lt t.from t.to) (clear T band t.of_list t.list) t.index)
              ∙ t.rest;
        }
      where
        before : (j : ℕ) → get_or c.since j 0 ≤ end
        before j = omega (arith, t.index j, R.on)

  -- ---- the end

  module _ (d : Counters) (settled : Settled at (λ j. between 0 band.below j || between band.below band.list.now.count j) (λ j. ltb j band.below) c d) where
    S : Settled at (λ j. between 0 band.below j || between band.below T.count j) (λ j. ltb j band.below) c d
    S = subst (λ (x : Thresholds). Settled at (λ j. between 0 band.below j || between band.below x.count j) (λ j. ltb j band.below) c d) t.of_list settled

    last : (j : ℕ) → SettledAt by.i at (between 0 band.below j || between band.below T.count j) (ltb j band.below)
        (activity c.a j) (get_or c.h j 0) (get_or c.since j 0) (activity d.a j) (get_or d.h j 0) (get_or d.since j 0)
    last = settled_at at _ _ d S

    unsettled : (j : ℕ) → T.count ≤ j → (between 0 band.below j || between band.below T.count j) ≡ false
    unsettled j l = past_all band.below T.count j (placed T band t.of_list t.list) l

    last_counts : d.a ≡ counts_by (threshold_of T) T.count by.i band.low at c.since c.a c.h
    unfolding counts_by
    last_counts =
        are_counts T.count d.a _ (sym S.a_length) (λ j l.
        (last j).count
        ∙ ap (λ (b : Bool). cond b (count_over by.i (ltb j band.below) (at - get_or c.since j 0) (activity c.a j) (get_or c.h j 0)) (activity c.a j)) (all_places band.below T.count j l)
        ∙ ap (λ (o : Bool). count_over by.i o (at - get_or c.since j 0) (activity c.a j) (get_or c.h j 0)) (sym (reached j l)))
        (λ j l. alone_count by.i at _ _ _ _ _ _ _ _ (last j) (unsettled j l) ∙ t.a_past j l)

    last_hangovers : d.h ≡ hangovers_by (threshold_of T) T.count by.i band.low at c.since c.h
    unfolding hangovers_by
    last_hangovers =
        is_filled_lem places T.count d.h _ (sym S.h_length) (λ j l.
        (last j).hangover
        ∙ ap (λ (b : Bool). cond b (hangover_over by.i (ltb j band.below) (at - get_or c.since j 0) (get_or c.h j 0)) (get_or c.h j 0)) (all_places band.below T.count j l)
        ∙ ap (λ (o : Bool). hangover_over by.i o (at - get_or c.since j 0) (get_or c.h j 0)) (sym (reached j l)))
        (λ j l. alone_hangover by.i at _ _ _ _ _ _ _ _ (last j) (unsettled j l) ∙ t.h_past j l)

    pub finished : length xs ≤ at → (sums : Sums) → sums ≡ ended s.sums m (length xs) → record { sums = sums; a = d.a; h = d.h } ≡ state_after by T s xs
    finished l sums e =
        ap (λ (x : Sums). state_of x d.a d.h) e
        ∙ ap₂ (λ (x : List Samples) (y : List ℕ). state_of (ended s.sums m (length xs)) x y) last_counts last_hangovers
        ∙ ap (λ (x : Sums). state_of x (counts_by (threshold_of T) T.count by.i band.low at c.since c.a c.h) (hangovers_by (threshold_of T) T.count by.i band.low at c.since c.h)) (sym (up_to_end s.sums m at (length xs) l))
        ∙ sym (none_left by T (ended s.sums m (min (at + 1) (length xs))) _ _ xs at l)
        ∙ t.rest
