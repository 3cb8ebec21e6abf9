-- What is found at the highest crossing are the levels that the definition has there.
use Rattle.std.proofs.Common.{◌≡◌, List, Some, Ok, ℕ, ℤ, pos, ◌-ℤ◌, ◌∙◌, arith}
use Rattle.level.specs.Logarithm.{lev}
use Rattle.level.specs.Types.{steps_of}
use Rattle.level.specs.declared.Samples.{Samples}
use Rattle.level.specs.declared.Steps.{Steps}
use Rattle.thresholds.specs.declared.Thresholds.{Thresholds}
use Rattle.crossing.specs.Crossing.{crossing, lower_of, active_level}
use Rattle.crossing.specs.Levels.{long_term}
use Rattle.crossing.specs.Searched.{said, searched, levels_for, levels_at, crossing_in, first_excess}
use Rattle.crossing.proofs.Sizes.{level_read}
use Rattle.level.proofs.Laws.{uncut}
use Rattle.std.proofs.lemmas.Int.{ints}
use Rattle.crossing.proofs.find_levels.Goals as goal

read_at : (M S : ℤ) (n sq j lower : ℕ) (T : Thresholds) (a : List Samples) (L A C F : Steps) → S ≡ pos (lev sq) → Some j ≡ crossing M S T a
    → L ≡ steps_of (S -ℤ pos (lev n)) → A ≡ steps_of (active_level M S T a j) → lower ≡ lower_of M S T a j → C ≡ steps_of (A.0 -ℤ M) → F ≡ steps_of (L.0 -ℤ A.0)
    → said (Ok (record { level = L; active = A; threshold = C; factor = F; lower = lower; upper = j })) ≡ searched M n sq T a
unfolding said searched levels_for levels_at crossing_in long_term
read_at M S n sq j lower T a L A C F s x l e b c f =
    let y : crossing M (pos (lev sq)) T a ≡ Some j = cc in
    simp (y, l, e, b, c, f, s)

pub returns-in_default : goal.returns-in_default
unfolding said searched levels_for crossing_in first_excess
returns-in_default c = grind (arith, level_read)

pub returns : goal.returns
returns c =
    read_at _ _ _ _ _ _ _ _ _ _ _ _ (c.or_zero.ensures ∙ (level_read _ _ c.level.ensures c.requires.sq_pos c.requires.sq_max).0) c.in-Some.ensures
    c.level_over-level.ensures.value c.active_at-active.ensures.level c.active_at-active.ensures.lower (rw (uncut (c.active_at-active.result.level.0 -ℤ c.args.margin.0) (omega (arith, ints))) at c.sub.ensures) (rw (uncut (c.level_over-level.result.0 -ℤ c.active_at-active.result.level.0) (omega (arith, ints))) at c.sub-2.ensures)
