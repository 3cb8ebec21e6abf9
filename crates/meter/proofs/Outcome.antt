-- What a report call hands back on a meter that refusal 2 lets pass, case by case in the order of testing; and that it is the report of METHOD.md:
-- `answered`.
use mathlib.Core.Bool.{Bool, true, false, cond, ◌&&◌, true≢false}
use mathlib.Core.List.{List, [], ◌∷◌}
use Rattle.std.specs.Prelude.{Option, Some, None, is_none}
use mathlib.Core.Path.{◌≡◌, refl, sym, ap, ◌∙◌, subst}
use Prim.Native.Nat.{ℕ, ◌<◌}
use native.Mathlib.Nat.{pos_of_ne-zero}
use native.Mathlib.Omega.{arith}
use borrow.Author.Tests.{eqb-true, eqb-false, ne_eqb, lt-ltb}
use lib.Dec.{T, eqb}
use lib.IntN.{ℤ, pos}
use lib.Signed.{lt_z}
use Rattle.std.proofs.lemmas.Int.{ints}
use Rattle.level.specs.declared.Samples.{Samples}
use Rattle.thresholds.specs.declared.Thresholds.{Thresholds}
use Rattle.level.specs.Types.{activity, two_words, words}
use Rattle.refusal.specs.First.{first_of}
use Rattle.refusal.proofs.Laws.{here, past, none as no-rule}
use Rattle.sample.specs.Sample.{list_from}
use Rattle.thresholds.proofs.Laws.{loaded}
use Rattle.meter.proofs.Possible.{possible}
use Rattle.crossing.specs.Levels.{excess}
use Rattle.crossing.specs.Crossing.{is_zero, is_crossing, crossing}
use Rattle.crossing.specs.Searched.{levels_at, no_levels, crossing_in, first_excess}
use Rattle.crossing.proofs.Searching.{Highest, found, not_found}
use Rattle.percent.proofs.Laws.{percent_is}
use Rattle.meter.specs.declared.Meter.{Meter}
use Rattle.meter.specs.Answered.{power_of, CrossingAt, Used, ReportAt, AllZero, Active, Answered, when_no_samples, when_no_signal, when_no_activity, when_level_below, when_level_above, levels}
use Rattle.meter.specs.Calls.{HandedReport, report_call}
use Rattle.meter.specs.Inner.{Tested, refused_report, reported_with}
use Rattle.meter.specs.Refusals.{impossible}
use Rattle.meter.specs.Reports.{margin_of, list_of, crossing_of, first_of_meter, no_samples, no_signal, no_activity, level_below, level_above, report_rules, no_report, report_with, report_at, report_for}

-- a refused report
pub no_report_lem : (k : ℕ) (m : Meter) → 0 < k → k ≡ first_of (report_rules m) → refused_report k m ≡ report_call m
unfolding refused_report report_call
no_report_lem k m l e =
    rw (sym e, ne_eqb k 0 (λ z. omega arith))

-- with a_0 above 0 and d_0 neither below nor above 0, there is a crossing at 0
signs : (d : ℤ) → lt_z d (pos 0) ≡ false → lt_z (pos 0) d ≡ false → is_zero d ≡ true
signs d p q = grind (arith, ints)

first_crosses : (M S : ℤ) (T : Thresholds) (a : List Samples) → 0 < activity a 0 → is_zero (excess M S T a 0) ≡ true → is_crossing M S T a 0 ≡ true
unfolding is_crossing
first_crosses M S T a p z = simp (lt-ltb 0 (activity a 0) p, z)

-- ---- the crossing that is used

-- whether there is a crossing of the meter at a place
abbrev pub crosses : Meter → ℕ → Bool
crosses m = is_crossing (margin_of m) (power_of m) (list_of m) m.state.a

pub no_crossing : (m : Meter) (j : ℕ) → crosses m j ≡ false → CrossingAt m j → ⊥
no_crossing m j e c = absurd (true≢false (sym c.crosses ∙ e))

pub highest_used : (m : Meter) (j : ℕ) → Highest (crosses m) (list_of m).count j → Used m j
highest_used m j h =
    record { crossing = record { place = h.place; crosses = h.holds }; none_higher = λ i l c. no_crossing m i (h.none_higher i l c.place) c }

-- ---- the number and the report, where the tests before have passed

module _ (m : Meter) (ok : impossible m ≡ false) where
  pub at_12 : no_samples m ≡ true → refused_report 12 m ≡ report_call m
  unfolding report_rules
  at_12 e = no_report_lem 12 m (omega arith) (past 2 (impossible m) _ ok (here 12 (no_samples m) _ e))

  pub at_13 : no_samples m ≡ false → no_signal m ≡ true → refused_report 13 m ≡ report_call m
  unfolding report_rules
  at_13 n e = no_report_lem 13 m (omega arith) (past 2 (impossible m) _ ok (past 12 (no_samples m) _ n (here 13 (no_signal m) _ e)))

  pub at_14 : no_samples m ≡ false → no_signal m ≡ false → no_activity m ≡ true → refused_report 14 m ≡ report_call m
  unfolding report_rules
  at_14 n s e =
      no_report_lem 14 m (omega arith)
      (past 2 (impossible m) _ ok (past 12 (no_samples m) _ n (past 13 (no_signal m) _ s (here 14 (no_activity m) _ e))))

module _ (m : Meter) (t : Tested m) where
  -- past the first four rules
  four : (k : ℕ) → k ≡ first_of ((15, level_below m) ∷ (16, level_above m) ∷ []) → k ≡ first_of (report_rules m)
  unfolding report_rules
  four k e =
      past 2 (impossible m) _ t.passed
      (past 12 (no_samples m) _ t.n_some (past 13 (no_signal m) _ t.sq_some (past 14 (no_activity m) _ t.a_some e)))

  -- 15 and 16 are tests of the crossing and of the sign of d_0
  below_is : (o : Option ℕ) → crossing_of m ≡ o → level_below m ≡ is_none o && lt_z (first_of_meter m) (pos 0)
  unfolding level_below
  below_is o e = ap (λ (o : Option ℕ). is_none o && lt_z (first_of_meter m) (pos 0)) e

  above_is : (o : Option ℕ) → crossing_of m ≡ o → level_above m ≡ is_none o && lt_z (pos 0) (first_of_meter m)
  unfolding level_above
  above_is o e = ap (λ (o : Option ℕ). is_none o && lt_z (pos 0) (first_of_meter m)) e

  pub nowhere : crossing_of m ≡ None → (j : ℕ) → CrossingAt m j → ⊥
  unfolding crossing_of crossing_in crossing
  nowhere e j c = no_crossing m j (not_found (crosses m) (list_of m).count e j c.place) c

  a_above : 0 < activity m.state.a 0
  unfolding no_activity
  a_above = pos_of_ne-zero (eqb-false _ 0 t.a_some)

  above_zero : crossing_of m ≡ None → lt_z (first_of_meter m) (pos 0) ≡ false → lt_z (pos 0) (first_of_meter m) ≡ true
  unfolding first_of_meter first_excess
  above_zero e b = go (lt_z (pos 0) (first_of_meter m)) refl
    where
      go : (b : Bool) → lt_z (pos 0) (first_of_meter m) ≡ b → b ≡ true
      go true p = refl
      go false p = absurd (nowhere e 0 (record { place = omega (arith, (loaded (list_of m) (possible m t.passed).list).least); crosses = first_crosses (margin_of m) (power_of m) (list_of m) m.state.a a_above (signs (first_of_meter m) b p) }))

  pub at_15 : crossing_of m ≡ None → lt_z (first_of_meter m) (pos 0) ≡ true → refused_report 15 m ≡ report_call m
  at_15 e b = no_report_lem 15 m (omega arith) (four 15 (here 15 (level_below m) _ (below_is None e ∙ b)))

  pub at_16 : crossing_of m ≡ None → lt_z (first_of_meter m) (pos 0) ≡ false → refused_report 16 m ≡ report_call m
  at_16 e b =
      no_report_lem 16 m (omega arith) (four 16 (past 15 (level_below m) _ (below_is None e ∙ b) (here 16 (level_above m) _ (above_is None e ∙ above_zero e b))))

  pub at_0 : (j : ℕ) → crossing_of m ≡ Some j → reported_with (levels_at (margin_of m) m.state.sums.n.0 (two_words m.state.sums.sq) (list_of m) m.state.a j) m ≡ report_call m
  unfolding reported_with report_call report_for report_at
  at_0 j e =
      ap (λ (r : ℕ). record { number = r; meter = m; report = cond (eqb r 0) (report_at m j) no_report })
      (four 0 (past 15 (level_below m) _ (below_is (Some j) e) (past 16 (level_above m) _ (above_is (Some j) e) no-rule)))
      ∙ ap (λ (o : Option ℕ). record { number = first_of (report_rules m); meter = m; report = cond (eqb (first_of (report_rules m)) 0) (report_for m o) no_report }) (sym e)

  pub used : (j : ℕ) → crossing_of m ≡ Some j → Used m j
  unfolding crossing_of crossing_in crossing
  used j e = highest_used m j (found (crosses m) (list_of m).count j e)

-- ---- the report of METHOD.md

pub zero_report : AllZero no_report
unfolding no_report no_levels words list_from
zero_report =
    record { n = refl; s = refl; high = refl; low = refl; a = refl; L = refl; A = refl; C = refl; F = refl; lower = refl; upper = refl; T = refl; M = refl; mark = refl }

pub at_crossing : (m : Meter) (j : ℕ) → ReportAt m j (report_at m j)
unfolding report_at report_with levels_at
at_crossing m j =
    record { n = refl; s = refl; sq = refl; a = refl; L = refl; A = refl; C = refl; F = refl; lower = refl; upper = refl; T = percent_is _; M = refl; mark = refl }

-- what is answered, read off what a report call hands back
abbrev Reads : Meter → HandedReport → Type 0
Reads m r = Answered m r.number r.report

pub answered : (m : Meter) → impossible m ≡ false → Answered m (report_call m).number (report_call m).report
unfolding refused_report reported_with no_samples no_signal no_activity first_of_meter first_excess report_at
answered m ok = by_n (no_samples m) refl
  where
    above : (n : ℕ) → eqb n 0 ≡ false → 0 < n
    above n e = pos_of_ne-zero (eqb-false n 0 e)

    by_sign : (t : Tested m) → Active m → crossing_of m ≡ None → (b : Bool) → lt_z (first_of_meter m) (pos 0) ≡ b → Reads m (report_call m)
    by_sign t a e true b = subst (Reads m) (at_15 m t e b) (when_level_below no_report zero_report a (nowhere m t e) b)
    by_sign t a e false b = subst (Reads m) (at_16 m t e b) (when_level_above no_report zero_report a (nowhere m t e) (above_zero m t e b))

    by_crossing : (t : Tested m) → Active m → (o : Option ℕ) → crossing_of m ≡ o → Reads m (report_call m)
    by_crossing t a None e = by_sign t a e (lt_z (first_of_meter m) (pos 0)) refl
    by_crossing t a (Some j) e = subst (Reads m) (at_0 m t j e) (levels (report_at m j) j a.n a.sq (used m t j e) (at_crossing m j))

    by_a : no_samples m ≡ false → no_signal m ≡ false → (b : Bool) → no_activity m ≡ b → Reads m (report_call m)
    by_a n s true e = subst (Reads m) (at_14 m ok n s e) (when_no_activity no_report zero_report (above _ n) (above _ s) (eqb-true _ 0 e))
    by_a n s false e =
        by_crossing (record { passed = ok; n_some = n; sq_some = s; a_some = e }) (record { n = above _ n; sq = above _ s; a = above _ e }) (crossing_of m) refl

    by_sq : no_samples m ≡ false → (b : Bool) → no_signal m ≡ b → Reads m (report_call m)
    by_sq n true e = subst (Reads m) (at_13 m ok n e) (when_no_signal no_report zero_report (above _ n) (eqb-true _ 0 e))
    by_sq n false e = by_a n e (no_activity m) refl

    by_n : (b : Bool) → no_samples m ≡ b → Reads m (report_call m)
    by_n true e = subst (Reads m) (at_12 m ok e) (when_no_samples no_report zero_report (eqb-true _ 0 e))
    by_n false e = by_sq e (no_signal m) refl
