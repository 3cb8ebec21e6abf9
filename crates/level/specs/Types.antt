-- Counts of samples, hundredths of a percent, levels in steps, and sums of squares in two words.
use Rattle.std.specs.Prelude.{ℕ, ◌+◌, ◌*◌, ◌/◌, ◌%◌, ◌^◌, List, ℤ, slice_index_or}
use Rattle.level.specs.declared.Hundredths.{Hundredths}
use Rattle.level.specs.declared.Samples.{Samples}
use Rattle.level.specs.declared.Squares.{Squares}
use Rattle.level.specs.declared.Steps.{Steps}
use Rattle.level.specs.declared.Units.{Units}

-- a number as a count of samples, as hundredths of a percent, as a threshold in units, and as a level or a difference of two
abbrev pub samples_of : ℕ → Samples
samples_of n = record { 0 = n }

abbrev pub hundredths_of : ℕ → Hundredths
hundredths_of n = record { 0 = n }

abbrev pub units_of : ℕ → Units
units_of n = record { 0 = n }

abbrev pub steps_of : ℤ → Steps
steps_of x = record { 0 = x }

-- the most samples that a measurement may hold
abbrev pub most_samples : ℕ
most_samples = 2 ^ 48

-- a_j of a list of activity counts
abbrev pub activity : List Samples → ℕ → ℕ
activity a j = (slice_index_or a j (samples_of 0)).0

-- the number that two words hold, and the words of a number
abbrev pub two_words : Squares → ℕ
two_words q = q.high * 2 ^ 64 + q.low

unfoldable pub words : ℕ → Squares
words N = record { high = N / 2 ^ 64; low = N % 2 ^ 64 }

-- two words with y added; a carry goes to the high word, and one out of that is lost
unfoldable pub grown : Squares → ℕ → Squares
grown q y = record { high = (q.high + (q.low + y) / 2 ^ 64) % 2 ^ 64; low = (q.low + y) % 2 ^ 64 }
