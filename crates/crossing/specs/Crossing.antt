-- The crossing, and the active level at it: METHOD.md, "The report". M is the margin, S is lev(sq), t the thresholds and a the activity counts.
use Rattle.std.specs.Prelude.{Bool, false, cond, ◌&&◌, ◌||◌, List, ℕ, zero, suc, ◌-◌, eqb, leb, ltb, ℤ, pos, negsuc, nat_abs, ◌+ℤ◌, ◌-ℤ◌, ◌*ℤ◌, Option, Some, None}
use Rattle.std.specs.Int.Signed.{lt_z, shr_z}
use Rattle.level.specs.Types.{activity}
use Rattle.level.specs.declared.Samples.{Samples}
use Rattle.thresholds.specs.declared.Thresholds.{Thresholds}
use Rattle.crossing.specs.Levels.{active_at, excess}

abbrev pub is_zero : ℤ → Bool
is_zero (pos n) = eqb n 0
is_zero (negsuc n) = false

-- whether there is a crossing at j: a_j is above 0, and either d_j is 0, or j is at least 1, d_(j−1) is above 0 and d_j is below 0
unfoldable pub is_crossing : (M S : ℤ) (t : Thresholds) (a : List Samples) (j : ℕ) → Bool
is_crossing M S t a j =
    let d = excess M S t a in
    ltb 0 (activity a j) && (is_zero (d j) || (leb 1 j && lt_z (pos 0) (d (j - 1)) && lt_z (d j) (pos 0)))

-- the highest place below k at which f holds
unfoldable pub highest_below : (ℕ → Bool) → (k : ℕ) → Option ℕ
highest_below f zero = None
highest_below f (suc k) = cond (f k) (Some k) (highest_below f k)

-- the highest crossing
unfoldable pub crossing : (M S : ℤ) (t : Thresholds) (a : List Samples) → Option ℕ
crossing M S t a = highest_below (is_crossing M S t a) t.count

-- a crossing's lower and upper threshold
unfoldable pub lower_of : (M S : ℤ) (t : Thresholds) (a : List Samples) (j : ℕ) → ℕ
lower_of M S t a j = cond (is_zero (excess M S t a j)) j (j - 1)

abbrev pub upper_of : (j : ℕ) → ℕ
upper_of j = j

-- floor(z / n)
abbrev pub floor_over : ℤ → ℕ → ℤ
floor_over z n = shr_z z n

-- A at a crossing j: A_j where d_j is 0, else A_(j−1) + floor((A_j − A_(j−1))·d_(j−1) / (d_(j−1) − d_j))
unfoldable pub active_level : (M S : ℤ) (t : Thresholds) (a : List Samples) (j : ℕ) → ℤ
active_level M S t a j =
    let A = active_at S a in
    let d = excess M S t a in
    cond (is_zero (d j)) (A j) (A (j - 1) +ℤ floor_over ((A j -ℤ A (j - 1)) *ℤ d (j - 1)) (nat_abs (d (j - 1) -ℤ d j)))
