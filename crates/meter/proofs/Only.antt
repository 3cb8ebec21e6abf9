-- Nothing is left to choice: a report that METHOD.md allows on a meter is the one that is given, and an untouched meter of a setting is one meter.
use mathlib.Core.Bool.{true, false}
use Rattle.std.specs.Prelude.{Option, Some, None}
use mathlib.Core.Logic.{⊎_elim}
use mathlib.Core.Path.{◌≡◌, refl, sym, ap, ◌∙◌}
use Prim.Native.Nat.{ℕ, ◌<◌}
use native.Mathlib.Nat.{le_antisymm}
use native.Mathlib.Omega.{arith}
use borrow.Author.Tests.{eq-eqb, ne_eqb}
use lib.Dec.{eqb}
use lib.IntN.{ℤ, pos, ◌-ℤ◌}
use lib.Signed.{lt_z}
use Rattle.std.proofs.lemmas.Bool.{cases_lt}
use Rattle.std.proofs.lemmas.Int.{ints}
use Rattle.level.specs.Types.{samples_of, hundredths_of, steps_of, two_words}
use Rattle.crossing.specs.Searched.{first_excess}
use Rattle.crossing.proofs.Bounds.{alive}
use Rattle.percent.specs.Percent.{percent_of}
use Rattle.percent.proofs.Laws.{percent_only}
use Rattle.setting.specs.declared.Setting.{Setting}
use Rattle.setting.specs.Settings.{is_marked}
use Rattle.meter.specs.declared.Meter.{Meter}
use Rattle.meter.specs.declared.Report.{Report}
use Rattle.meter.specs.Answered.{power_of, CrossingAt, Used, ReportAt, AllZero, Active, Answered, when_no_samples, when_no_signal, when_no_activity, when_level_below, when_level_above, levels}
use Rattle.meter.specs.Calls.{HandedReport, report_call}
use Rattle.meter.specs.Inner.{Tested, refused_report, reported_with}
use Rattle.meter.specs.Opened.{Untouched}
use Rattle.meter.specs.Refusals.{impossible}
use Rattle.meter.specs.Reports.{margin_of, list_of, crossing_of, first_of_meter, no_samples, no_signal, no_activity, report_at}
use Rattle.meter.proofs.Outcome.{at_0, at_12, at_13, at_14, at_15, at_16, nowhere, used, zero_report, at_crossing}
use Rattle.meter.proofs.Possible.{possible, falling}

-- two things that are a third
meet : {A : Type 0} {x y z : A} → x ≡ z → y ≡ z → x ≡ y
meet p q = p ∙ sym q

-- ---- a meter before any sample

pub untouched_once : {c : Setting} {I : ℕ} {m m' : Meter} → Untouched c I m → Untouched c I m' → m ≡ m'
untouched_once u u' = λ i. record {
  setting = meet u.setting u'.setting i;
  state = record {
    sums = record {
      n = samples_of (meet u.n u'.n i);
      s = meet u.s u'.s i;
      sq = record { high = meet u.high u'.high i; low = meet u.low u'.low i };
      p = meet u.P u'.P i;
      q = meet u.Q u'.Q i;
    };
    a = meet u.a u'.a i;
    h = meet u.h u'.h i;
  };
}

-- ---- a report

-- reports whose fields are the same
same_fields : {r r' : Report} → r.n.0 ≡ r'.n.0 → r.s ≡ r'.s → r.sq ≡ r'.sq → r.a ≡ r'.a
    → r.levels.level.0 ≡ r'.levels.level.0 → r.levels.active.0 ≡ r'.levels.active.0 → r.levels.threshold.0 ≡ r'.levels.threshold.0
    → r.levels.factor.0 ≡ r'.levels.factor.0 → r.levels.lower ≡ r'.levels.lower → r.levels.upper ≡ r'.levels.upper
    → r.percent.0 ≡ r'.percent.0 → r.margin.0 ≡ r'.margin.0 → r.mark ≡ r'.mark → r ≡ r'
same_fields n s sq a L A C F lower upper T M mark = λ i. record {
  n = samples_of (n i);
  s = s i;
  sq = sq i;
  a = a i;
  levels = record { level = steps_of (L i); active = steps_of (A i); threshold = steps_of (C i); factor = steps_of (F i); lower = lower i; upper = upper i };
  percent = hundredths_of (T i);
  margin = steps_of (M i);
  mark = mark i;
}

zero_once : {r r' : Report} → AllZero r → AllZero r' → r ≡ r'
zero_once z z' =
    same_fields (meet z.n z'.n) (meet z.s z'.s) (λ i. record { high = meet z.high z'.high i; low = meet z.low z'.low i }) (meet z.a z'.a)
    (meet z.L z'.L) (meet z.A z'.A) (meet z.C z'.C) (meet z.F z'.F) (meet z.lower z'.lower) (meet z.upper z'.upper)
    (meet z.T z'.T) (meet z.M z'.M) (meet z.mark z'.mark)

report_once : {m : Meter} {j : ℕ} {r r' : Report} → ReportAt m j r → ReportAt m j r' → r ≡ r'
report_once {m} {j} {r} {r'} z z' =
    let L = meet z.L z'.L in
    let A = meet z.A z'.A in
    let F = z.F ∙ (λ i. L i -ℤ A i) ∙ sym z'.F in
    let M = meet z.M z'.M in
    same_fields (meet z.n z'.n) (meet z.s z'.s) (meet z.sq z'.sq) (meet z.a z'.a)
    L A (z.C ∙ ap (λ (x : ℤ). x -ℤ margin_of m) A ∙ sym z'.C) F (meet z.lower z'.lower) (meet z.upper z'.upper)
    (sym (percent_only _ z.T) ∙ ap percent_of F ∙ percent_only _ z'.T) M (z.mark ∙ ap is_marked M ∙ sym z'.mark)

-- the crossing that is used is one
used_once : {m : Meter} {i j : ℕ} → Used m i → Used m j → i ≡ j
used_once {m} {i} {j} u u' =
    ⊎_elim (λ l. absurd (u.none_higher j l u'.crossing))
    (λ l. ⊎_elim (λ k. absurd (u'.none_higher i k u.crossing)) (λ k. le_antisymm k l) (cases_lt j i)) (cases_lt i j)

not_zero : (n : ℕ) → 0 < n → eqb n 0 ≡ false
not_zero n h = ne_eqb n 0 (λ e. omega arith)

-- what is answered is what a report call hands back
module _ (m : Meter) (ok : impossible m ≡ false) where
  abbrev Given : (k : ℕ) → Report → Type 0
  Given k r = ((report_call m).number ≡ k) × ((report_call m).report ≡ r)

  -- refused with k
  refused : (k : ℕ) (r : Report) → refused_report k m ≡ report_call m → AllZero r → Given k r
  unfolding refused_report
  refused k r e z = (ap (λ (x : HandedReport). x.number) (sym e), ap (λ (x : HandedReport). x.report) (sym e) ∙ zero_once zero_report z)

  tested : Active m → Tested m
  unfolding no_samples no_signal no_activity
  tested a = record { passed = ok; n_some = not_zero _ a.n; sq_some = not_zero _ a.sq; a_some = not_zero _ a.a }

  none_found : Active m → ((j : ℕ) → CrossingAt m j → ⊥) → crossing_of m ≡ None
  none_found a nowhere-else = go (crossing_of m) refl
    where
      go : (o : Option ℕ) → crossing_of m ≡ o → o ≡ None
      go None e = refl
      go (Some j) e = absurd (nowhere-else j (used m (tested a) j e).crossing)

  found : Active m → (j : ℕ) → Used m j → crossing_of m ≡ Some j
  found a j u = go (crossing_of m) refl
    where
      go : (o : Option ℕ) → crossing_of m ≡ o → o ≡ Some j
      go None e = absurd (nowhere m (tested a) e j u.crossing)
      go (Some i) e = ap Some (used_once (used m (tested a) i e) u)

  active : 0 < m.state.sums.n.0 → 0 < two_words m.state.sums.sq → (j : ℕ) → Used m j → Active m
  active n s j u =
      let some = alive (margin_of m) (power_of m) (list_of m) m.state.a j u.crossing.crosses in
      record { n = n; sq = s; a = omega (arith, some, falling m (possible m ok) 0 j (omega arith) u.crossing.place) }

  pub only : {k : ℕ} {r : Report} → Answered m k r → Given k r
  unfolding no_samples no_signal no_activity first_of_meter first_excess reported_with report_at
  only (when_no_samples r z n) = refused 12 r (at_12 m ok (eq-eqb _ 0 n)) z
  only (when_no_signal r z n s) = refused 13 r (at_13 m ok (not_zero _ n) (eq-eqb _ 0 s)) z
  only (when_no_activity r z n s a) = refused 14 r (at_14 m ok (not_zero _ n) (not_zero _ s) (eq-eqb _ 0 a)) z
  only (when_level_below r z a x d) = refused 15 r (at_15 m (tested a) (none_found a x) d) z
  only (when_level_above r z a x d) = refused 16 r (at_16 m (tested a) (none_found a x) (not_both (first_of_meter m) d)) z
    where
      not_both : (x : ℤ) → lt_z (pos 0) x ≡ true → lt_z x (pos 0) ≡ false
      not_both x h = grind (arith, ints)
  only (levels r j n s u at) =
      let a = active n s j u in
      let e = at_0 m (tested a) j (found a j u) in
      (ap (λ (x : HandedReport). x.number) (sym e), ap (λ (x : HandedReport). x.report) (sym e) ∙ report_once (at_crossing m j) at)
