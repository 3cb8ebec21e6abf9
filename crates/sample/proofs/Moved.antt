-- What moves at each new sample: it stands for the sums, and room for samples stays.
use mathlib.Core.Path.{◌≡◌, ap, ap₂, ◌∙◌, subst, sym}
use Prim.Native.Nat.{ℕ, ◌+◌, ◌-◌, ◌*◌, ◌^◌, ◌≤◌, ◌<◌, min}
use native.Mathlib.Nat.{add-zero, mul-le-mul}
use native.Mathlib.Omega.{arith}
use lib.IntN.{ℤ}
use mir.Syntax.{w16}
use mir.Val.{SFits}
use Rattle.level.specs.declared.Squares.{Squares}
use Rattle.level.specs.Types.{samples_of, two_words, words, most_samples}
use Rattle.level.proofs.Words.{two_of_words, words_of_two}
use Rattle.std.proofs.lemmas.Int.{ints}
use Rattle.sample.specs.declared.Counting.{Counting}
use Rattle.sample.specs.declared.Sums.{Sums}
use Rattle.sample.specs.declared.step.Moving.{Moving}
use Rattle.sample.specs.Envelope.{smoothing, size, rectified}
use Rattle.sample.specs.Inner.Steps.{begun, moved, ended, Room}
use Rattle.sample.specs.Sample.{summed}
use Rattle.sample.specs.StateAfter.{BoundedSums}
use Rattle.sample.proofs.Envelope.{smooth_le}
use Rattle.sample.proofs.Signs.{size_small}

-- ---- it stands for the sums

-- up to a sample's index, as many samples as to the one after it
pub up_to : (b : Sums) (r : Moving) (i l : ℕ) → i < l → ended b r (min (i + 1) l) ≡ ended b r (i + 1)
up_to b r i l h = ap (ended b r) (omega arith)

-- and up to the end all of them
pub up_to_end : (b : Sums) (r : Moving) (i l : ℕ) → l ≤ i → ended b r (min (i + 1) l) ≡ ended b r l
up_to_end b r i l h = ap (ended b r) (omega arith)

-- before the first sample
pub ended_none : (b : Sums) → b.sq.low < 2 ^ 64 → ended b (begun b) 0 ≡ b
ended_none b l =
    ap₂ (λ (k : ℕ) (t : Squares). record { n = samples_of k; s = b.s; sq = t; p = b.p; q = b.q })
    (add-zero b.n.0) (ap words (add-zero (two_words b.sq)) ∙ words_of_two b.sq l)

-- and after a sample
pub ended_more : (by : Counting) (b : Sums) (m : Moving) (new : ℕ) (x : ℤ) → ended b (moved by m x) (new + 1) ≡ summed by (ended b m new) x
unfolding moved summed
ended_more by b m new x =
    ap₂ (λ (k t : ℕ). record { n = samples_of k; s = (moved by m x).s; sq = words t; p = (moved by m x).p; q = (moved by m x).q })
    (omega arith) (more (two_words b.sq) m.sq _ (size by.offset x * size by.offset x) (two_of_words (two_words b.sq + m.sq)))
  where
    more : (t sq w y : ℕ) → w ≡ t + sq → t + (sq + y) ≡ w + y
    more t sq w y e = omega arith

-- what moves after the sample at index i, of l in all, stands for the definition's sums
pub ended_at : (by : Counting) (b : Sums) (m r : Moving) (x : ℤ) (i l : ℕ) → i < l → r ≡ moved by m x → ended b r (min (i + 1) l) ≡ summed by (ended b m i) x
ended_at by b m r x i l h e = up_to b r i l h ∙ ap (λ (t : Moving). ended b t (i + 1)) e ∙ ended_more by b m i x

-- ---- room

pub room_first : (b : Sums) (new : ℕ) → BoundedSums b → b.n.0 + new ≤ most_samples → new < 2 ^ 32 → Room new (begun b)
room_first b new h r f =
    record { s_max = s_room b.n.0 _ new h.s_max r; sq_max = omega arith; p_max = h.p_max; q_max = h.q_max }
  where
    s_room : (n s new : ℕ) → s ≤ n * 2 ^ 15 → n + new ≤ most_samples → s + new * 2 ^ 15 ≤ 2 ^ 63
    s_room n s new h k = omega arith

pub room_less : (k left : ℕ) (m : Moving) → k ≤ left → Room left m → Room k m
room_less k left m l r =
    record { s_max = omega (arith, r.s_max); sq_max = omega (arith, r.sq_max); p_max = r.p_max; q_max = r.q_max }

-- K is at most 2^20, and the offset a number of 16 bits
pub record Sized (by : Counting) : Type 0 where
  pub k_max : by.k ≤ smoothing
  pub offset_fits : SFits w16 by.offset

room_kept : (by : Counting) (left : ℕ) (m : Moving) (x : ℤ) → Sized by → SFits w16 x → Room (left + 1) m → Room left (moved by m x)
unfolding moved rectified
room_kept by left m x b f r =
    let sx = size_small by.offset x b.offset_fits f in
    let P = smooth_le by.k (2 ^ 40) m.p (size by.offset x * 2 ^ 24) b.k_max r.p_max (omega (arith, sx)) in
    record {
      s_max = omega (arith, ints, r.s_max);
      sq_max = sq_more m.sq _ left (mul-le-mul sx sx) r.sq_max;
      p_max = P;
      q_max = smooth_le by.k (2 ^ 40) m.q _ b.k_max r.q_max P;
    }
  where
    sq_more : (sq y left : ℕ) → y ≤ 2 ^ 16 * 2 ^ 16 → sq + (left + 1) * 2 ^ 32 < 2 ^ 64 → sq + y + left * 2 ^ 32 < 2 ^ 64
    sq_more sq y left h r = omega arith

-- after the sample at index i, of l in all, room for those after it
pub room_after : (by : Counting) (m r : Moving) (x : ℤ) (i l : ℕ) → i < l → Sized by → SFits w16 x → r ≡ moved by m x → Room (l - i) m → Room (l - (i + 1)) r
room_after by m r x i l h k f e g = subst (Room (l - (i + 1))) (sym e) (room_kept by (l - (i + 1)) m x k f (room_less (l - (i + 1) + 1) (l - i) m (omega arith) g))
