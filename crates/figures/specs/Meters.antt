-- The meters that rows hand in.
use Rattle.std.specs.Prelude.{List, [], map, ◌++◌, ℕ, ◌-◌, ℤ, pos, length, replicate}
use Rattle.level.specs.declared.Samples.{Samples}
use Rattle.level.specs.Types.{samples_of, words}
use Rattle.thresholds.specs.declared.Thresholds.{Thresholds}
use Rattle.thresholds.specs.Lists.{places, held_of}
use Rattle.sample.specs.declared.State.{State}
use Rattle.sample.specs.declared.Sums.{Sums}
use Rattle.meter.specs.declared.Meter.{Meter}
use Rattle.setting.specs.declared.Setting.{Setting}
use Rattle.setting.specs.Settings.{usual_setting, with_code as chosenCode, with_offset as chosenOffset, with_margin as chosenMargin, with_thresholds as chosenThresholds}
use Rattle.meter.specs.Calls.{fresh}

-- numbers, and zeros in the places past them
abbrev pub padded : List ℕ → List ℕ
padded l = l ++ replicate (places - length l) 0

-- places filled with these numbers, beside any length
abbrev pub placed : (count : ℕ) → List ℕ → Thresholds
placed count l = record { count = count; at = padded l }

-- the usual setting of a code, with another offset, with another margin, and with other thresholds; and the fresh meter of a code
abbrev pub offset_by : (code : ℕ) (o : ℤ) → Setting
offset_by code o = chosenOffset o (usual_setting code)

abbrev pub margin_by : (code : ℕ) (M : ℤ) → Setting
margin_by code M = chosenMargin M (usual_setting code)

abbrev pub placed_by : (code : ℕ) (t : Thresholds) → Setting
placed_by code t = chosenThresholds t (usual_setting code)

abbrev pub list_by : (code : ℕ) (l : List ℕ) → Setting
list_by code l = placed_by code (held_of l)

abbrev pub fresh_at : ℕ → Meter
fresh_at code = fresh (usual_setting code)

-- a meter with n, sq and a, at code 2 and with the usual margin and thresholds, all else zero
unfoldable pub given : (n sq : ℕ) → List ℕ → Meter
given n sq a =
    record {
      setting = usual_setting 2;
      state = record { sums = record { n = samples_of n; s = pos 0; sq = words sq; p = 0; q = 0 }; a = map samples_of (padded a); h = padded [] };
    }

-- one with n 1000, sq and every a_j being zero too: refusal 2 lets it pass
abbrev pub plain : Meter
plain = given 1000 0 []

-- a meter with one of its fields another
abbrev with_setting : Setting → Meter → Meter
with_setting c m = record { setting = c; state = m.state }

abbrev pub with_code : ℕ → Meter → Meter
with_code code m = with_setting (chosenCode code m.setting) m

abbrev pub with_offset : ℤ → Meter → Meter
with_offset o m = with_setting (chosenOffset o m.setting) m

abbrev pub with_margin : ℤ → Meter → Meter
with_margin M m = with_setting (chosenMargin M m.setting) m

abbrev pub with_thresholds : Thresholds → Meter → Meter
with_thresholds t m = with_setting (chosenThresholds t m.setting) m

abbrev pub with_list : List ℕ → Meter → Meter
with_list l m = with_thresholds (held_of l) m

abbrev with_state : State → Meter → Meter
with_state x m = record { setting = m.setting; state = x }

abbrev with_sums : Sums → Meter → Meter
with_sums x m = with_state (record { sums = x; a = m.state.a; h = m.state.h }) m

abbrev pub with_n : ℕ → Meter → Meter
with_n x m = let v = m.state.sums in with_sums (record { n = samples_of x; s = v.s; sq = v.sq; p = v.p; q = v.q }) m

abbrev pub with_s : ℤ → Meter → Meter
with_s x m = let v = m.state.sums in with_sums (record { n = v.n; s = x; sq = v.sq; p = v.p; q = v.q }) m

-- sq, in its two words
abbrev pub with_sq : (high low : ℕ) → Meter → Meter
with_sq high low m = let v = m.state.sums in with_sums (record { n = v.n; s = v.s; sq = record { high = high; low = low }; p = v.p; q = v.q }) m

abbrev pub with_p : ℕ → Meter → Meter
with_p x m = let v = m.state.sums in with_sums (record { n = v.n; s = v.s; sq = v.sq; p = x; q = v.q }) m

abbrev pub with_q : ℕ → Meter → Meter
with_q x m = let v = m.state.sums in with_sums (record { n = v.n; s = v.s; sq = v.sq; p = v.p; q = x }) m

abbrev pub with_a : List ℕ → Meter → Meter
with_a x m = with_state (record { sums = m.state.sums; a = map samples_of (padded x); h = m.state.h }) m

abbrev pub with_h : List ℕ → Meter → Meter
with_h x m = with_state (record { sums = m.state.sums; a = m.state.a; h = padded x }) m

-- activity counts as numbers, and those of a meter
abbrev pub numbers : List Samples → List ℕ
numbers a = map (λ (n : Samples). n.0) a

abbrev pub counts_of : Meter → List ℕ
counts_of m = numbers m.state.a
