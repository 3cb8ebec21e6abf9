-- What moves at each new sample, and what the parts of a step promise one another.
use Rattle.std.specs.Prelude.{ℕ, ◌+◌, ◌-◌, ◌*◌, ◌^◌, ◌≤◌, ◌<◌, ℤ, nat_abs, ◌+ℤ◌}
use Rattle.level.specs.Types.{samples_of, two_words, words, most_samples}
use Rattle.sample.specs.declared.Counting.{Counting}
use Rattle.sample.specs.declared.Sums.{Sums}
use Rattle.sample.specs.declared.step.Moving.{Moving}
use Rattle.sample.specs.Envelope.{smoothing, smooth, size, rectified}

-- what moves, before the first of new samples
abbrev pub begun : Sums → Moving
begun b = record { s = b.s; sq = 0; p = b.p; q = b.q }

-- after a sample x
unfoldable pub moved : Counting → Moving → ℤ → Moving
moved by m x =
    let P = smooth by.k m.p (rectified by.offset x) in
    record {
      s = m.s +ℤ x;
      sq = m.sq + size by.offset x * size by.offset x;
      p = P;
      q = smooth by.k m.q P;
    }

-- the sums after so many samples, the last of which left m, where they were b before
abbrev pub ended : (b : Sums) → Moving → (new : ℕ) → Sums
ended b m new = record { n = samples_of (b.n.0 + new); s = m.s; sq = words (two_words b.sq + m.sq); p = m.p; q = m.q }

pub record Endable (b : Sums) (new : ℕ) : Type 0 where
  pub room : b.n.0 + new ≤ most_samples
  pub sq_max : two_words b.sq ≤ 2 ^ 80

-- there is room for so many samples more
pub record Room (left : ℕ) (m : Moving) : Type 0 where
  pub s_max : nat_abs m.s + left * 2 ^ 15 ≤ 2 ^ 63
  pub sq_max : m.sq + left * 2 ^ 32 < 2 ^ 64
  pub p_max : m.p ≤ 2 ^ 40
  pub q_max : m.q ≤ 2 ^ 40

pub record Steppable (K : ℕ) (m : Moving) : Type 0 where
  pub k_max : K ≤ smoothing
  pub room : Room 1 m

-- values whose step of smoothing stays in 64 bits
pub record Smoothable (K old new : ℕ) : Type 0 where
  pub k_max : K ≤ smoothing
  pub old_max : old ≤ 2 ^ 40
  pub new_max : new ≤ 2 ^ 40

-- a sum that a sample can be added to
abbrev pub Addable : ℤ → Type 0
Addable s = nat_abs s ≤ 2 ^ 63 - 2 ^ 15
