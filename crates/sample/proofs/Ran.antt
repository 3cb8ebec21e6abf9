-- A run, sample by sample: begun, gone on with, left, and ended with the samples.
use mathlib.Core.List.{List, ◌∷◌}
use mathlib.Core.Path.{◌≡◌, ap, ap₂, ◌∙◌, sym}
use Prim.Native.Nat.{ℕ, ◌+◌, ◌-◌, ◌≤◌, ◌<◌, min}
use native.Mathlib.Numerals.{add-one}
use native.Mathlib.Omega.{arith}
use lib.IntN.{ℤ, pos}
use lib.ListN.{length, get_or, drop, drop_of_length-le}
use lib.Seq.{drop-cons}
use mir.Facts.{to_z-of_z}
use mir.Syntax.{w16}
use mir.Val.{SFits}
use Rattle.std.proofs.Common.{to_z, of_z, subst}
use Rattle.thresholds.specs.declared.Thresholds.{Thresholds}
use Rattle.thresholds.specs.Lists.{places, threshold_of}
use Rattle.level.specs.declared.Samples.{Samples}
use Rattle.sample.specs.declared.Counting.{Counting}
use Rattle.sample.specs.declared.Sums.{Sums}
use Rattle.sample.specs.declared.State.{State}
use Rattle.sample.specs.declared.step.Moving.{Moving}
use Rattle.sample.specs.Envelope.{smoothing}
use Rattle.sample.specs.Sample.{summed, counts, hangovers, state_after_one, state_after}
use Rattle.sample.specs.Inner.Steps.{moved, ended, Room}
use Rattle.sample.specs.Inner.Bands.{Clear}
use Rattle.sample.specs.Inner.Runs.{counts_by, hangovers_by, state_of, led, led_by, Runnable, Ran}
use Rattle.sample.proofs.Moved.{up_to, ended_at, room_less, room_after}
use Rattle.sample.proofs.Over.{same_side, one_counts, one_hangovers}

split : (xs : List ℤ) (i : ℕ) → i < length xs → drop i xs ≡ get_or xs i (pos 0) ∷ drop (i + 1) xs
split xs i h = rw add-one (drop-cons xs i (pos 0) h)

-- a sample of the definition goes into the sums first
pub step_is : (by : Counting) (t : Thresholds) (m r : Sums) (a : List Samples) (h : List ℕ) (xs : List ℤ) (i : ℕ) → i < length xs → r ≡ summed by m (get_or xs i (pos 0))
    → state_after by t (state_of m a h) (drop i xs) ≡ led by t r a h (drop i xs)
unfolding state_after state_after_one led
step_is by t m r a h xs i l e =
    ap (state_after by t (state_of m a h)) (split xs i l)
    ∙ ap₂
    (λ (n : Sums) (c : List Samples). state_after by t (record { sums = n; a = c; h = hangovers (threshold_of t) t.count by.i n.q h }) (drop (i + 1) xs))
    (sym e) (ap (λ (n : Sums). counts (threshold_of t) t.count by.i n.q a h) (sym e))
    ∙ ap (led by t r a h) (sym (split xs i l))

-- and then into the counters
count_is : (by : Counting) (t : Thresholds) (r : Sums) (a : List Samples) (h : List ℕ) (xs : List ℤ) (i : ℕ) → i < length xs
    → led by t r a h (drop i xs) ≡ state_after by t (state_of r (counts (threshold_of t) t.count by.i r.q a h) (hangovers (threshold_of t) t.count by.i r.q h)) (drop (i + 1) xs)
unfolding led
count_is by t r a h xs i l = ap (led by t r a h) (split xs i l)

-- past the last sample nothing changes
pub none_left : (by : Counting) (t : Thresholds) (m : Sums) (a : List Samples) (h : List ℕ) (xs : List ℤ) (i : ℕ) → length xs ≤ i → led by t m a h (drop i xs) ≡ state_of m a h
unfolding led
none_left by t m a h xs i l = ap (led by t m a h) (drop_of_length-le xs l)

no_more : (by : Counting) (t : Thresholds) (m : Sums) (a : List Samples) (h : List ℕ) (xs : List ℤ) (i : ℕ) → length xs ≤ i → state_after by t (state_of m a h) (drop i xs) ≡ led by t m a h (drop i xs)
unfolding state_after
no_more by t m a h xs i l = ap (state_after by t (state_of m a h)) (drop_of_length-le xs l) ∙ sym (none_left by t m a h xs i l)

-- the state at index i, before the sample there: sums that were b and are now at r, and counters that stand for an envelope Q
abbrev standing_at : Counting → Thresholds → (b : Sums) → Moving → (Q i : ℕ) (since : List ℕ) (a : List Samples) (h : List ℕ) → State
standing_at by t b r Q i since a h =
    state_of (ended b r i) (counts_by (threshold_of t) t.count by.i Q i since a h) (hangovers_by (threshold_of t) t.count by.i Q i since h)

-- how the run loop stands at index i: the samples before it are in the sums, and count from where each counter stands
pub record Going (by : Counting) (low high : ℕ) (m : Moving) (xs : List ℤ) (at : ℕ) (r : Moving) (i : ℕ) : Type 0 where
  pub on : at < i
  pub within : i ≤ length xs
  pub room : Room (length xs - i) r
  pub same : (t : Thresholds) → t.count ≤ places → (b : Sums) (Q : ℕ) (since : List ℕ) (a : List Samples) (h : List ℕ) → low ≤ Q → Q < high → Clear (threshold_of t) t.count low high → ((j : ℕ) → get_or since j 0 ≤ at)
      → led_by by t b m Q at since a h xs ≡ state_after by t (standing_at by t b r Q i since a h) (drop i xs)

-- a sample whose envelope is in the band counts where each counter stands
counted_on : (by : Counting) (t : Thresholds) (few : t.count ≤ places) (low high Q : ℕ) (b : Sums) (r : Moving) (since : List ℕ) (a : List Samples) (h : List ℕ) (xs : List ℤ) (i : ℕ) → i < length xs → low ≤ r.q → r.q < high → low ≤ Q → Q < high → Clear (threshold_of t) t.count low high
    → ((j : ℕ) → get_or since j 0 ≤ i)
    → led_by by t b r Q i since a h xs ≡ state_after by t (standing_at by t b r Q (i + 1) since a h) (drop (i + 1) xs)
counted_on by t few low high Q b r since a h xs i l lq qh p q c before =
    let s = same_side (threshold_of t) t.count low high r.q Q c lq qh p q in
    let A = counts_by (threshold_of t) t.count by.i Q i since a h in
    let H = hangovers_by (threshold_of t) t.count by.i Q i since h in
    ap (λ (n : Sums). led by t n A H (drop i xs)) (up_to b r i (length xs) l)
    ∙ count_is by t (ended b r (i + 1)) A H xs i l
    ∙ ap₂ (λ (x : List Samples) (y : List ℕ). state_after by t (state_of (ended b r (i + 1)) x y) (drop (i + 1) xs))
    (one_counts (threshold_of t) t.count few by.i Q r.q i since a h s before) (one_hangovers (threshold_of t) t.count few by.i Q r.q i since a h s before)

pub set_out : (by : Counting) (low high : ℕ) (m : Moving) (xs : List ℤ) (at : ℕ) → Runnable by m low high xs at → Going by low high m xs at m (at + 1)
set_out by low high m xs at g =
    record {
      on = omega arith;
      within = omega (arith, g.some);
      room = g.room;
      same = λ t few b Q since a h p q c before. counted_on by t few low high Q b m since a h xs at g.some g.from g.to p q c before;
    }

-- the sample at index i, in what moves
module _ (by : Counting) (low high : ℕ) (m : Moving) (xs : List ℤ) (at : ℕ) (r s : Moving) (i : ℕ) (g : Going by low high m xs at r i)
    (l : i < length xs) (k : by.k ≤ smoothing) (o : SFits w16 by.offset) (f : SFits w16 (get_or xs i (pos 0))) (read : s ≡ moved by r (to_z w16 (of_z w16 (get_or xs i (pos 0))))) where
  e : s ≡ moved by r (get_or xs i (pos 0))
  e = read ∙ ap (moved by r) (to_z-of_z {w = w16} f)

  kept : Room (length xs - (i + 1)) s
  kept = room_after by r s _ i (length xs) l (record { k_max = k; offset_fits = o }) f e g.room

  stepped : (t : Thresholds) (b : Sums) (Q : ℕ) (since : List ℕ) (a : List Samples) (h : List ℕ) → state_after by t (standing_at by t b r Q i since a h) (drop i xs) ≡ led_by by t b s Q i since a h xs
  stepped t b Q since a h =
      step_is by t (ended b r i) (ended b s (min (i + 1) (length xs))) (counts_by (threshold_of t) t.count by.i Q i since a h) (hangovers_by (threshold_of t) t.count by.i Q i since h) xs i l
      (ended_at by b r s _ i (length xs) l e)

  -- it may end the run
  pub gone_out : Ran by low high m xs at s i
  gone_out =
      record {
        on = g.on;
        within = g.within;
        room = kept;
        same = λ t few b Q since a h p q c before. g.same t few b Q since a h p q c before ∙ stepped t b Q since a h;
      }

  -- or keep the envelope in the band
  pub gone_on : low ≤ s.q → s.q < high → Going by low high m xs at s (i + 1)
  gone_on lq qh =
      record {
        on = omega (arith, g.on);
        within = omega arith;
        room = kept;
        same = λ t few b Q since a h p q c before.
            g.same t few b Q since a h p q c before ∙ stepped t b Q since a h ∙ counted_on by t few low high Q b s since a h xs i l lq qh p q c (λ j. omega (arith, before j, g.on));
      }

-- the samples may end first
pub run_out : (by : Counting) (low high : ℕ) (m : Moving) (xs : List ℤ) (at : ℕ) (r : Moving) (i : ℕ) → Going by low high m xs at r i → length xs ≤ i → Ran by low high m xs at r (length xs)
run_out by low high m xs at r i g h = subst (Ran by low high m xs at r) last
    (record {
      on = g.on;
      within = g.within;
      room = room_less _ _ r (omega arith) g.room;
      same = λ t few b Q since a h' p q c before.
          g.same t few b Q since a h' p q c before
          ∙ no_more by t (ended b r i) _ _ xs i h
          ∙ ap (λ (n : Sums). led by t n (counts_by (threshold_of t) t.count by.i Q i since a h') (hangovers_by (threshold_of t) t.count by.i Q i since h') (drop i xs))
          (ap (ended b r) so_many);
    })
  where
    last : i ≡ length xs
    last = omega (arith, g.within)

    so_many : i ≡ min (i + 1) (length xs)
    so_many = omega (arith, g.within)
