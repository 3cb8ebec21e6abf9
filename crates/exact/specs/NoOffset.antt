-- The measurement of a line card without an offset: document 01's own formulas for the sums, in which a sample x counts as |x| and x·x. They serve the
-- law at the end and nothing else. Counts and hangovers read Q alone, and are those of METHOD.md, "One sample".
use Rattle.std.specs.Prelude.{List, [], ◌∷◌, ◌≡◌, ℕ, ◌+◌, ◌-◌, ◌*◌, ◌/◌, ◌^◌, ℤ, pos, nat_abs, ◌+ℤ◌, ◌*ℤ◌}
use Rattle.level.specs.Types.{samples_of, two_words, words}
use Rattle.thresholds.specs.declared.Thresholds.{Thresholds}
use Rattle.thresholds.specs.Lists.{threshold_of}
use Rattle.setting.specs.declared.Setting.{Setting}
use Rattle.setting.specs.Settings.{k_of, i_of}
use Rattle.sample.specs.declared.State.{State}
use Rattle.sample.specs.declared.Sums.{Sums}
use Rattle.sample.specs.Sample.{fresh_state, counts, hangovers}
use Rattle.meter.specs.Calls.{fresh, after_samples}

-- n grows by 1, s by x, sq by x times x; P becomes floor((P(2^20 − K) + |x|·2^24·K) / 2^20), then Q floor((Q(2^20 − K) + P·K) / 2^20) with the new P
unfoldable pub raw_sums : (K : ℕ) → Sums → ℤ → Sums
raw_sums K m x =
    let P = (m.p * (2 ^ 20 - K) + nat_abs x * 2 ^ 24 * K) / 2 ^ 20 in
    record {
      n = samples_of (m.n.0 + 1);
      s = m.s +ℤ x;
      sq = words (two_words m.sq + nat_abs (x *ℤ x));
      p = P;
      q = (m.q * (2 ^ 20 - K) + P * K) / 2 ^ 20;
    }

-- and then the counts and hangovers
unfoldable pub raw_after_one : (t : Thresholds) (K I : ℕ) → State → ℤ → State
raw_after_one t K I m x =
    let sums = raw_sums K m.sums x in
    record {
      sums = sums;
      a = counts (threshold_of t) t.count I sums.q m.a m.h;
      h = hangovers (threshold_of t) t.count I sums.q m.h;
    }

unfoldable pub raw_after : (t : Thresholds) (K I : ℕ) → State → List ℤ → State
raw_after t K I m [] = m
raw_after t K I m (x ∷ xs) = raw_after t K I (raw_after_one t K I m x) xs

-- the law: with o = 0 a fresh meter's measurement of any samples is that
abbrev pub NoOffset : Type 0
NoOffset = (c : Setting) (xs : List ℤ) → c.offset ≡ pos 0 → (after_samples (fresh c) xs).state ≡ raw_after c.thresholds (k_of c) (i_of c) (fresh_state c.thresholds.count (i_of c)) xs
