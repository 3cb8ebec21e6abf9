-- A sample, and samples in order: METHOD.md, "One sample".
use Rattle.std.specs.Prelude.{List, [], ◌∷◌, ℕ, ◌+◌, ◌*◌, leb, ℤ, pos, ◌+ℤ◌, get_or}
use Rattle.level.specs.Types.{samples_of, activity, two_words, words}
use Rattle.level.specs.declared.Samples.{Samples}
use Rattle.thresholds.specs.declared.Thresholds.{Thresholds}
use Rattle.thresholds.specs.Lists.{places, threshold_of}
unfoldable pub use Rattle.thresholds.specs.Places.{list_from, up_to}
pub use Rattle.thresholds.specs.Places.{each}
use Rattle.sample.specs.declared.Counting.{Counting}
use Rattle.sample.specs.declared.Sums.{Sums}
use Rattle.sample.specs.declared.State.{State}
use Rattle.sample.specs.Activity.{counted, hung}
use Rattle.sample.specs.Envelope.{smooth, size, rectified}

-- at first, with k thresholds: each h_j = I, all else zero
unfoldable pub fresh_state : (k I : ℕ) → State
fresh_state k I =
    record {
      sums = record { n = samples_of 0; s = pos 0; sq = words 0; p = 0; q = 0 };
      a = each places (λ j. samples_of 0);
      h = each places (up_to k (λ j. I));
    }

-- the sums after a sample x. s sums up raw samples, sq and P are of x − o; Q is fed the new P
unfoldable pub summed : Counting → Sums → ℤ → Sums
summed by m x =
    let P = smooth by.k m.p (rectified by.offset x) in
    record {
      n = samples_of (m.n.0 + 1);
      s = m.s +ℤ x;
      sq = words (two_words m.sq + size by.offset x * size by.offset x);
      p = P;
      q = smooth by.k m.q P;
    }

-- the counts and the hangovers at k thresholds c after a sample that left the envelope at Q; past them, zeros
unfoldable pub counts : (c : ℕ → ℕ) (k I Q : ℕ) (a : List Samples) (h : List ℕ) → List Samples
counts c k I Q a h = each places (λ j. samples_of (up_to k (λ i. counted I (leb (c i) Q) (activity a i) (get_or h i 0)) j))

unfoldable pub hangovers : (c : ℕ → ℕ) (k I Q : ℕ) (h : List ℕ) → List ℕ
hangovers c k I Q h = each places (up_to k (λ j. hung I (leb (c j) Q) (get_or h j 0)))

-- all of it after a sample x
unfoldable pub state_after_one : Counting → Thresholds → State → ℤ → State
state_after_one by t m x =
    let sums = summed by m.sums x in
    record {
      sums = sums;
      a = counts (threshold_of t) t.count by.i sums.q m.a m.h;
      h = hangovers (threshold_of t) t.count by.i sums.q m.h;
    }

-- and after samples in order
unfoldable pub state_after : Counting → Thresholds → State → List ℤ → State
state_after by t m [] = m
state_after by t m (x ∷ xs) = state_after by t (state_after_one by t m x) xs
