-- Demand 3: `demand3`. After any list of calls the meter and E are tied, and each clause reads one part of the tie; the report is METHOD.md's by
-- `answered`, and the level clauses are the bounds of any crossing, with the counts' orders put in.
use mathlib.Core.Bool.{Bool, true, false, cond}
use mathlib.Core.List.{List, [], ◌∷◌}
use mathlib.Core.Path.{◌≡◌, refl, sym, ap, ◌∙◌, subst, subst₂}
use Prim.Native.Nat.{ℕ, ◌+◌, ◌*◌, ◌≤◌, ◌<◌}
use native.Mathlib.Omega.{arith}
use lib.IntN.{ℤ, pos, ◌+ℤ◌}
use Rattle.std.proofs.lemmas.Int.{ints}
use lib.Signed.{lt_z, le_z}
use Rattle.level.specs.Types.{activity, two_words}
use Rattle.thresholds.specs.declared.Thresholds.{Thresholds}
use Rattle.thresholds.specs.Lists.{places, built_in_list, built_in_count, threshold_of}
use Rattle.crossing.specs.Crossing.{active_level}
use Rattle.thresholds.proofs.Laws.{built_in_count_lem, loaded}
use Rattle.rate.specs.Rates.{row_of}
use Rattle.setting.specs.declared.Setting.{Setting}
use Rattle.setting.specs.Settings.{d_of}
use Rattle.crossing.specs.Levels.{level_of_threshold}
use Rattle.crossing.proofs.Bounds.{Around, Crossed, bounded, over_margin}
use Rattle.crossing.proofs.BuiltIn.{built_in_level}
use Rattle.meter.specs.declared.Meter.{Meter}
use Rattle.meter.specs.declared.Report.{Report}
use Rattle.meter.specs.Answered.{power_of}
use Rattle.meter.specs.Calls.{open_call, report_call}
use Rattle.meter.specs.Reports.{margin_of}
use Rattle.meter.proofs.Range.{margin_range}
use Rattle.meter.proofs.Laws.{Levels, with_levels, crossing_of_lem}
use Rattle.meter.proofs.Outcome.{answered}
use Rattle.meter.proofs.Possible.{passes, falling}
use Rattle.exact.specs.Calls.{Call, Typed, brought_by}
use Rattle.exact.specs.Demands.{TypedOffset, Opens, meter_after, exact_at, exact_after, taken_from, count_at, LevelBounds, EmptyAt, Demand3}
use Rattle.exact.specs.Exact.{E, start, start_at, take_all, accepts, fed, exactly, took}
use Rattle.exact.specs.Worked.{Worked}
use Rattle.exact.proofs.Calls.{Good, good_possible, good_after, good_open, same_answers, same_samples}
use Rattle.exact.proofs.Lost.{exactly_is, measured, exact_squares}
use Rattle.exact.proofs.Tied.{same_code}
use Rattle.exact.proofs.AsStated.{at_first, worked}

-- E keeps its code
kept_code : (calls : List Call) (e : E) → (exactly e calls).code ≡ e.code
unfolding exactly fed
kept_code [] e = refl
kept_code (call ∷ calls) e = kept_code calls (fed e call) ∙ go (accepts e call)
  where
    go : (t : Bool) → (cond t (take_all e (brought_by call)) e).code ≡ e.code
    go true = same_code (brought_by call) e
    go false = refl

start_code : (c : Setting) → (exact_at c).code ≡ c.code
unfolding start start_at
start_code c = refl

-- ---- the levels

module _ (m : Meter) (e : E) (g : Good m e) (r : Report) (L : Levels m r) where
  cross : Crossed (margin_of m) (power_of m) m.setting.thresholds m.state.a L.j
  cross = crossing_of_lem m (good_possible m e g) L.j L.used.crossing

  abbrev T : Thresholds
  T = m.setting.thresholds

  bounds : Around (active_level (margin_of m) (power_of m) T m.state.a L.j) (two_words m.state.sums.sq) (count_at e (threshold_of T cross.i)) (count_at e (threshold_of T L.j + (row_of e.code).d))
  bounds =
      let at = L.used.crossing.place in
      let low : cross.i < T.count = omega (arith, cross.reach) in
      bounded (margin_of m) (two_words m.state.sums.sq) T m.state.a L.j _ _ L.sq_pos (omega (arith, g.tied.squares, g.few)) cross
      (omega (arith, (g.tied.each cross.i low).few, g.few)) (g.tied.each cross.i low).high.count (g.tied.each L.j at).low.count

  -- A is at least C_lower + M
  over : le_z (level_of_threshold (threshold_of T r.levels.lower) +ℤ margin_of m) r.levels.active.0 ≡ true
  over =
      subst₂ (λ (i : ℕ) (A : ℤ). le_z (level_of_threshold (threshold_of T i) +ℤ margin_of m) A ≡ true) (sym (L.report.lower ∙ cross.lower)) (sym L.report.A)
      (over_margin (margin_of m) _ T m.state.a L.j cross)

  -- so above 0, where the list is the built-in one
  pub over_zero : T ≡ built_in_list → lt_z (pos 0) r.levels.active.0 ≡ true
  over_zero b =
      let i = r.levels.lower in
      let low : i < built_in_count = omega (arith, L.report.lower ∙ cross.lower, cross.reach, L.used.crossing.place, ap (λ (t : Thresholds). t.count) b, built_in_count_lem) in
      let C : level_of_threshold (threshold_of T i) ≡ pos (8192 * i) = ap (λ (t : Thresholds). level_of_threshold (threshold_of t i)) b ∙ built_in_level i low in
      more (8192 * i) (margin_of m) _ (margin_range (margin_of m) g.margin).above_zero (ap (λ (z : ℤ). le_z (z +ℤ margin_of m) r.levels.active.0) (sym C) ∙ over)
    where
      more : (c : ℕ) (M A : ℤ) → lt_z (pos 0) M ≡ true → le_z (pos c +ℤ M) A ≡ true → lt_z (pos 0) A ≡ true
      more c M A h k = grind (arith, ints)

  pub level_bounds : LevelBounds T (margin_of m) r e (row_of e.code).d
  level_bounds =
      let D = (row_of e.code).d in
      let exact = subst₂ (λ (A : ℤ) (s : ℕ). Around A s (count_at e (threshold_of T cross.i)) (count_at e (threshold_of T L.j + D))) (sym L.report.A) g.tied.power bounds in
      let b = subst₂ (λ (i j : ℕ). Around r.levels.active.0 e.sq (count_at e (threshold_of T i)) (count_at e (threshold_of T j + D))) (sym (L.report.lower ∙ cross.lower)) (sym L.report.upper) exact in
      record { at_least_margin = over; plus_two = b.plus; less_two = b.less }

-- ---- past the end of the list

empty_at : (m : Meter) (e : E) → Good m e → (j : ℕ) → m.setting.thresholds.count ≤ j → j < places → EmptyAt m j
empty_at m e g j l h =
    record {
      threshold = (loaded m.setting.thresholds g.list).zero_past j l h;
      count = omega (arith, g.tied.a_past j h l);
      hangover = omega (arith, g.tied.h_past j h l);
    }

-- ---- the samples: the meter takes those that E takes

pub taken_alike : (c : Setting) (calls : List Call) → TypedOffset c → Opens c → Typed calls → taken_from c calls ≡ took (exact_at c) calls
taken_alike c calls t z f = same_samples calls (open_call c).meter (exact_at c) f (good_open c t z)

-- ---- the whole

pub demand3 : (c : Setting) (calls : List Call) → TypedOffset c → Opens c → Typed calls → Demand3 c calls
unfolding d_of
demand3 c calls t z f =
    let first = good_open c t z in
    let g = good_after calls (open_call c).meter (exact_at c) f first in
    let ok = passes _ (good_possible _ _ g) in
    record {
      at_first = at_first c;
      worked = subst (Worked (exact_at c) (took (exact_at c) calls)) (sym (exactly_is calls (exact_at c))) (worked (took (exact_at c) calls) (exact_at c));
      same_calls = same_answers calls (open_call c).meter (exact_at c) f first;
      same_total = sym g.tied.taken;
      exact_squares = exact_squares c calls;
      same_squares = sym g.tied.power;
      at_most = subst (λ (T : Thresholds). (j : ℕ) → j < T.count → activity (meter_after c calls).state.a j ≤ count_at (exact_after c calls) (threshold_of T j)) list_is (λ j l. (g.tied.each j l).high.count);
      at_least = subst₂ (λ (T : Thresholds) (k : ℕ). (j : ℕ) → j < T.count → count_at (exact_after c calls) (threshold_of T j + (row_of k).d) ≤ activity (meter_after c calls).state.a j) list_is code_is (λ j l. (g.tied.each j l).low.count);
      never_rises = subst (λ (T : Thresholds). (i j : ℕ) → i ≤ j → j < T.count → activity (meter_after c calls).state.a j ≤ activity (meter_after c calls).state.a i) list_is (falling (meter_after c calls) (good_possible _ _ g));
      past_end = subst (λ (T : Thresholds). (j : ℕ) → T.count ≤ j → j < places → EmptyAt (meter_after c calls) j) list_is (empty_at _ _ g);
      report = answered (meter_after c calls) ok;
      levels = λ e. subst₂ (λ (s : Setting) (k : ℕ). LevelBounds s.thresholds s.margin.0 (report_call (meter_after c calls)).report (exact_after c calls) (row_of k).d) setting_is code_is
          (level_bounds (meter_after c calls) (exact_after c calls) g _ (with_levels (answered (meter_after c calls) ok) e));
      above_zero = λ b e. over_zero (meter_after c calls) (exact_after c calls) g _ (with_levels (answered (meter_after c calls) ok) e) (list_is ∙ b);
    }
  where
    code_is : (exact_after c calls).code ≡ c.code
    code_is = kept_code calls (exact_at c) ∙ start_code c

    setting_is : (meter_after c calls).setting ≡ c
    setting_is = ap (λ (m : Meter). m.setting) (measured c calls z)

    list_is : (meter_after c calls).setting.thresholds ≡ c.thresholds
    list_is = ap (λ (s : Setting). s.thresholds) setting_is
