-- The meter that opening hands back, field by field: METHOD.md, "One sample" and "Why a call is refused".
use Rattle.std.specs.Prelude.{◌++◌, ◌≡◌, ℕ, ◌-◌, pos, replicate}
use Rattle.level.specs.Types.{samples_of}
use Rattle.thresholds.specs.Lists.{places}
use Rattle.setting.specs.declared.Setting.{Setting}
use Rattle.setting.specs.Settings.{i_of, no_setting}
use Rattle.meter.specs.declared.Meter.{Meter}

-- the meter of a setting before any sample: each h_j of the list is I, and all else zero, the h_j past its end too
pub record Untouched (c : Setting) (I : ℕ) (m : Meter) : Type 0 where
  pub setting : m.setting ≡ c
  pub n : m.state.sums.n.0 ≡ 0
  pub s : m.state.sums.s ≡ pos 0
  pub high : m.state.sums.sq.high ≡ 0
  pub low : m.state.sums.sq.low ≡ 0
  pub P : m.state.sums.p ≡ 0
  pub Q : m.state.sums.q ≡ 0
  pub a : m.state.a ≡ replicate places (samples_of 0)
  pub h : m.state.h ≡ replicate c.thresholds.count I ++ replicate (places - c.thresholds.count) 0

-- the fresh meter: that setting, each h_j = I, all else zero
abbrev pub Fresh : Setting → Meter → Type 0
Fresh c m = Untouched c (i_of c) m

-- the meter beside a refused opening: all zeros
abbrev pub Zeros : Meter → Type 0
Zeros m = Untouched no_setting 0 m
