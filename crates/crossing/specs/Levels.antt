-- The levels of a report, in steps: METHOD.md, "The report". M is the margin, S is lev(sq), t the thresholds and a the activity counts.
use Rattle.std.specs.Prelude.{List, ℕ, ◌*◌, ℤ, pos, ◌-ℤ◌}
use Rattle.level.specs.Logarithm.{lev}
use Rattle.level.specs.Types.{activity}
use Rattle.level.specs.declared.Samples.{Samples}
use Rattle.thresholds.specs.declared.Thresholds.{Thresholds}
use Rattle.thresholds.specs.Lists.{threshold_of}

-- L = lev(sq) − lev(n)
unfoldable pub long_term : (S : ℤ) (n : ℕ) → ℤ
long_term S n = S -ℤ pos (lev n)

-- A_j = lev(sq) − lev(a_j), where a_j is above 0
unfoldable pub active_at : (S : ℤ) (a : List Samples) (j : ℕ) → ℤ
active_at S a j = S -ℤ pos (lev (activity a j))

-- twice lev of one interval in units, 2^24: 2·4096·24
abbrev pub interval_steps : ℕ
interval_steps = 196608

-- C_j = 2·lev(c_j) − 196608, for c_j in units: below 0 where c_j is less than one interval, and only there
unfoldable pub level_of_threshold : (c : ℕ) → ℤ
level_of_threshold c = pos (2 * lev c) -ℤ pos interval_steps

-- d_j = A_j − C_j − M
unfoldable pub excess : (M S : ℤ) (t : Thresholds) (a : List Samples) (j : ℕ) → ℤ
excess M S t a j = active_at S a j -ℤ level_of_threshold (threshold_of t j) -ℤ M
