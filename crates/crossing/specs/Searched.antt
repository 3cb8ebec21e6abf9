-- The levels at a crossing, and what the search for one finds: METHOD.md, "The report" and "Why a call is refused". M is the margin, t the thresholds.
use Rattle.std.specs.Prelude.{cond, List, ℕ, ℤ, pos, ◌-ℤ◌, Option, Some, None, Result, Ok, Err}
use Rattle.std.specs.Int.Signed.{lt_z}
use Rattle.level.specs.Logarithm.{lev}
use Rattle.level.specs.Types.{steps_of}
use Rattle.level.specs.declared.Samples.{Samples}
use Rattle.thresholds.specs.declared.Thresholds.{Thresholds}
use Rattle.crossing.specs.declared.Levels.{Levels}
use Rattle.refusal.specs.declared.Refusal.{Refusal}
use Rattle.refusal.specs.declared.Refusal.TheVariants.{NoCrossingBelow, NoCrossingAbove}
use Rattle.crossing.specs.declared.NoCrossing.{NoCrossing}
use Rattle.crossing.specs.declared.NoCrossing.TheVariants.{Below, Above}
use Rattle.crossing.specs.Levels.{long_term, excess}
use Rattle.crossing.specs.Crossing.{crossing, lower_of, upper_of, active_level}

-- the levels at a crossing j: C = A − M, F = L − A
unfoldable pub levels_at : (M : ℤ) (n sq : ℕ) (t : Thresholds) (a : List Samples) (j : ℕ) → Levels
levels_at M n sq t a j =
    let S = pos (lev sq) in
    let L = long_term S n in
    let A = active_level M S t a j in
    record {
      level = steps_of L;
      active = steps_of A;
      threshold = steps_of (A -ℤ M);
      factor = steps_of (L -ℤ A);
      lower = lower_of M S t a j;
      upper = upper_of j;
    }

-- no levels: all zero
unfoldable pub no_levels : Levels
no_levels =
    record {
      level = steps_of (pos 0);
      active = steps_of (pos 0);
      threshold = steps_of (pos 0);
      factor = steps_of (pos 0);
      lower = 0;
      upper = 0;
    }

-- the highest crossing of a measurement, and d_0
unfoldable pub crossing_in : (M : ℤ) (sq : ℕ) (t : Thresholds) (a : List Samples) → Option ℕ
crossing_in M sq t a = crossing M (pos (lev sq)) t a

unfoldable pub first_excess : (M : ℤ) (sq : ℕ) (t : Thresholds) (a : List Samples) → ℤ
first_excess M sq t a = excess M (pos (lev sq)) t a 0

-- a number, 0 where there are levels, and the levels
pub record Searched : Type 0 where
  pub number : ℕ
  pub levels : Levels

-- at what the search for a crossing found: its levels; or none, by the sign of d_0
unfoldable pub levels_for : (M : ℤ) (n sq : ℕ) (t : Thresholds) (a : List Samples) → Option ℕ → Searched
levels_for M n sq t a None = record { number = cond (lt_z (first_excess M sq t a) (pos 0)) 15 16; levels = no_levels }
levels_for M n sq t a (Some j) = record { number = 0; levels = levels_at M n sq t a j }

unfoldable pub searched : (M : ℤ) (n sq : ℕ) (t : Thresholds) (a : List Samples) → Searched
searched M n sq t a = levels_for M n sq t a (crossing_in M sq t a)

-- what an answer says, and the refusal of each reason
unfoldable pub said : Result Levels NoCrossing → Searched
said (Ok l) = record { number = 0; levels = l }
said (Err Below) = record { number = 15; levels = no_levels }
said (Err Above) = record { number = 16; levels = no_levels }

abbrev pub refusal_of : NoCrossing → Refusal
refusal_of Below = NoCrossingBelow
refusal_of Above = NoCrossingAbove
