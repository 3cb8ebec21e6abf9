-- Two cards on one line: METHOD.md, "Two cards on one line". This is the customer's request L7, how much converter noise can move a count. What is in
-- quotes are his words. `Claim` says that `OneLine` leads to `TwoCards`.
use Rattle.std.specs.Prelude.{List, ◌≡◌, ℕ, ◌+◌, ◌*◌, ◌≤◌, ◌<◌, ℤ, pos, get_or, length}
use Rattle.level.specs.Types.{activity}
use Rattle.thresholds.specs.Lists.{threshold_of}
use Rattle.setting.specs.declared.Setting.{Setting}
use Rattle.setting.specs.Settings.{d_of}
use Rattle.sample.specs.Envelope.{interval}
use Rattle.exact.specs.Calls.{Call}
use Rattle.exact.specs.Demands.{Opens, meter_after, exact_after, taken_from, count_at}
use Rattle.exact.specs.Exact.{distance}

-- ---- the cards: "two sample sequences of equal length at one rate and offset, each given in accepted chunk or block calls to a fresh meter"

-- two numbers differ by at most d
abbrev pub DifferAtMost : (d m n : ℕ) → Type 0
DifferAtMost d m n = (m ≤ n + d) × (n ≤ m + d)

-- the size |x − o| of the i-th sample
abbrev pub size_at : (o : ℤ) → List ℤ → (i : ℕ) → ℕ
size_at o xs i = distance o (get_or xs i (pos 0))

-- samples that are equally many, and "whose rectified values (offset taken off first) differ by at most d intervals at each sample"
pub record Alike (d : ℕ) (o : ℤ) (xs xs' : List ℤ) : Type 0 where
  pub equally_many : length xs ≡ length xs'
  pub sizes : (i : ℕ) → i < length xs → DifferAtMost d (size_at o xs i) (size_at o xs' i)

-- the settings and the calls of two cards. Margins may differ, calls may be cut differently, and some may be refused: the samples are those that were
-- taken
pub record OneLine (d : ℕ) (c c' : Setting) (calls calls' : List Call) : Type 0 where
  pub opens : Opens c
  pub opens' : Opens c'
  pub rate : c'.code ≡ c.code
  pub offset : c'.offset ≡ c.offset
  pub samples : Alike d c.offset (taken_from c calls) (taken_from c' calls')

-- ---- their counts

-- c_j of a setting, "raised by d intervals and D units"
abbrev pub raised : (d : ℕ) → Setting → (j : ℕ) → ℕ
raised d c j = threshold_of c.thresholds j + d * interval + d_of c

-- the "meter's own count at the plain threshold" c_j
abbrev pub meter_count : Setting → List Call → (j : ℕ) → ℕ
meter_count c calls j = activity (meter_after c calls).state.a j

-- the counts of the first card, with c and calls, against those of the second
pub record Compared (d : ℕ) (c c' : Setting) (calls calls' : List Call) : Type 0 where
  -- "E's count for the first card at a threshold raised by d intervals and D units is never above the second meter's own count at the plain threshold"
  pub never_above : (j : ℕ) → j < c'.thresholds.count → count_at (exact_after c calls) (raised d c' j) ≤ meter_count c' calls' j
  -- What a field engineer reads from it: at any threshold c_i of the first meter and c'_j of the second, the first meter's count exceeds the second's by at
  -- most E's own difference for the first card between c_i and c'_j raised. Here nothing is subtracted
  pub exceeds_at_most : (i j : ℕ) → i < c.thresholds.count → j < c'.thresholds.count
      → meter_count c calls i + count_at (exact_after c calls) (raised d c' j) ≤ meter_count c' calls' j + count_at (exact_after c calls) (threshold_of c.thresholds i)
  -- And from the two meters alone, without E: where c_i is at least d intervals above c'_j, the first's count at c_i is never above the second's at c'_j
  pub meters_alone : (i j : ℕ) → i < c.thresholds.count → j < c'.thresholds.count → threshold_of c'.thresholds j + d * interval ≤ threshold_of c.thresholds i
      → meter_count c calls i ≤ meter_count c' calls' j

-- "and the same with the cards exchanged"
pub record TwoCards (d : ℕ) (c c' : Setting) (calls calls' : List Call) : Type 0 where
  pub first : Compared d c c' calls calls'
  pub exchanged : Compared d c' c calls' calls
