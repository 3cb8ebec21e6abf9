-- The figures that a setting stands for, and the margins that it may have: METHOD.md, "Rates", "The report" and "Why a call is refused".
use Rattle.std.specs.Prelude.{Bool, ◌||◌, ℕ, ℤ, pos}
use Rattle.std.specs.Int.Signed.{lt_z}
use Rattle.level.specs.Types.{steps_of}
use Rattle.rate.specs.Rates.{row_of}
use Rattle.thresholds.specs.declared.Thresholds.{Thresholds}
use Rattle.thresholds.specs.Lists.{no_list, built_in_list}
use Rattle.setting.specs.declared.Setting.{Setting}

unfoldable pub k_of : Setting → ℕ
k_of c = (row_of c.code).k

unfoldable pub i_of : Setting → ℕ
i_of c = (row_of c.code).i

unfoldable pub d_of : Setting → ℕ
d_of c = (row_of c.code).d

-- no offset, the margin that P.56 names, 21635 steps or 15.9 dB, and the built-in thresholds
abbrev pub usual_setting : (code : ℕ) → Setting
usual_setting code = record { code = code; offset = pos 0; margin = steps_of (pos 21635); thresholds = built_in_list }

-- all zeros, for the meter beside a refused opening
abbrev pub no_setting : Setting
no_setting = record { code = 0; offset = pos 0; margin = steps_of (pos 0); thresholds = no_list }

-- a setting with one of its fields another
abbrev pub with_code : ℕ → Setting → Setting
with_code code c = record { code = code; offset = c.offset; margin = c.margin; thresholds = c.thresholds }

abbrev pub with_offset : ℤ → Setting → Setting
with_offset o c = record { code = c.code; offset = o; margin = c.margin; thresholds = c.thresholds }

abbrev pub with_margin : ℤ → Setting → Setting
with_margin M c = record { code = c.code; offset = c.offset; margin = steps_of M; thresholds = c.thresholds }

abbrev pub with_thresholds : Thresholds → Setting → Setting
with_thresholds t c = record { code = c.code; offset = c.offset; margin = c.margin; thresholds = t }

-- 17: a margin outside 1 to 22314 steps, of which 22314 is the most that is not above 16.4 dB
abbrev pub least_margin : ℤ
least_margin = pos 1

abbrev pub largest_margin : ℤ
largest_margin = pos 22314

unfoldable pub wrong_margin : (M : ℤ) → Bool
wrong_margin M = lt_z M least_margin || lt_z largest_margin M

-- the mark of a margin: it is below 20955 steps, the fewest that are not below 15.4 dB
abbrev pub is_marked : ℤ → Bool
is_marked M = lt_z M (pos 20955)
