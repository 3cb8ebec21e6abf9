-- Demands 1 and 2 over the definitions, for any meter whatever: which number is given, what is handed back, when a block is taken, what the meter of
-- all zeros is told, and that a report's factor is never above 0, its percentage never smaller for a larger factor, and its levels all exist.
use mathlib.Core.Bool.{true, false, cond}
use mathlib.Core.List.{List, []}
use mathlib.Core.Logic.{◌⊎◌, inl, inr, ◌↔◌}
use mathlib.Core.Path.{◌≡◌, refl, sym, ap, ap₂, ◌∙◌, subst}
use Prim.Native.Nat.{ℕ, ◌+◌, ◌-◌, ◌≤◌, ◌<◌}
use native.Mathlib.Omega.{arith}
use borrow.Author.Tests.{ne_eqb, le-ltb}
use lib.Dec.{eqb, ltb, lit≤}
use lib.IntN.{ℤ, pos, ◌-ℤ◌}
use lib.Signed.{lt_z, le_z}
use Rattle.level.specs.Types.{most_samples, two_words, words}
use Rattle.level.proofs.Laws.{level_exists}
use Rattle.rate.proofs.Laws.{zero_unnamed}
use Rattle.refusal.specs.First.{first_of, NoneApplies, rising, Given, Lowest}
use Rattle.refusal.proofs.Laws.{here, past, none, given_lowest}
use Rattle.block.specs.Block.{samples_in}
use Rattle.block.specs.Refusals.{block_rules}
use Rattle.sample.specs.Sample.{list_from, fresh_state, state_after}
use Rattle.thresholds.specs.Lists.{places, no_list, list_rules}
use Rattle.thresholds.proofs.Laws.{loaded, within}
use Rattle.thresholds.proofs.Places.{filled_with}
use Rattle.crossing.proofs.Bounds.{Around, long_term_lem, Crossed, crossed, factor}
use Rattle.percent.specs.Percent.{IsPercent}
use Rattle.percent.proofs.Laws.{never_smaller}
use Rattle.setting.specs.declared.Setting.{Setting}
use Rattle.possible.specs.Impossible.{any_of}
use Rattle.meter.specs.declared.Meter.{Meter}
use Rattle.meter.specs.declared.Report.{Report}
use Rattle.meter.specs.Answered.{power_of, CrossingAt, Used, ReportAt, AllZero, Active, Answered, when_no_samples, when_no_signal, when_no_activity, when_level_below, when_level_above, levels, LevelsExist}
use Rattle.meter.specs.Calls.{fresh, zero_meter, after_samples, open_call, chunk_call, block_call, report_call}
use Rattle.meter.specs.Opened.{Fresh, Zeros}
use Rattle.meter.specs.Refusals.{unnamed_code, impossible, long_chunk, too_many, open_rules, chunk_rules, block_call_rules}
use Rattle.meter.specs.Reports.{margin_of, list_of, report_rules}
use Rattle.meter.proofs.Outcome.{zero_report, answered}
use Rattle.meter.proofs.Possible.{Possible, possible, falling}

-- ---- the number given is that of the first rule that applies, which is the lowest

pub open_given : (c : Setting) → Given (open_rules c) (open_call c).number × Lowest (open_rules c) (open_call c).number
unfolding open_call open_rules list_rules rising
open_given c = given_lowest (open_rules c) refl

pub chunk_given : (m : Meter) (xs : List ℤ) → Given (chunk_rules m xs) (chunk_call m xs).number × Lowest (chunk_rules m xs) (chunk_call m xs).number
unfolding chunk_call chunk_rules rising
chunk_given m xs = given_lowest (chunk_rules m xs) refl

pub block_given : (m : Meter) (b : List ℕ) → Given (block_call_rules m b) (block_call m b).number × Lowest (block_call_rules m b) (block_call m b).number
unfolding block_call block_call_rules block_rules rising
block_given m b = given_lowest (block_call_rules m b) refl

pub report_given : (m : Meter) → Given (report_rules m) (report_call m).number × Lowest (report_rules m) (report_call m).number
unfolding report_call report_rules rising
report_given m = given_lowest (report_rules m) refl

-- ---- what is handed back

refused : (r : ℕ) (a b : Meter) → 0 < r → cond (eqb r 0) a b ≡ b
refused r a b h = simp (ne_eqb r 0 (λ e. omega arith))

accepted : (r : ℕ) (a b : Meter) → r ≡ 0 → cond (eqb r 0) a b ≡ a
accepted r a b z = ap (λ (n : ℕ). cond (eqb n 0) a b) z

-- a refused call hands back the meter it was given
pub refused_chunk : (m : Meter) (xs : List ℤ) → 0 < (chunk_call m xs).number → (chunk_call m xs).meter ≡ m
unfolding chunk_call
refused_chunk m xs h = refused _ _ _ h

pub refused_block : (m : Meter) (b : List ℕ) → 0 < (block_call m b).number → (block_call m b).meter ≡ m
unfolding block_call
refused_block m b h = refused _ _ _ h

pub report_meter : (m : Meter) → (report_call m).meter ≡ m
unfolding report_call
report_meter m = refl

-- a refused report is all zeros, whatever it was refused with
pub refused_report_lem : (m : Meter) → 0 < (report_call m).number → AllZero (report_call m).report
unfolding report_call
refused_report_lem m h = subst AllZero (sym (simp (ne_eqb (first_of (report_rules m)) 0 (λ e. omega arith)))) zero_report

-- opening hands back the fresh meter; refused, the meter of all zeros
pub opened : (c : Setting) → (open_call c).number ≡ 0 → (open_call c).meter ≡ fresh c
unfolding open_call
opened c z = accepted _ _ _ z

pub fresh_fields : (c : Setting) → c.thresholds.count ≤ places → Fresh c (fresh c)
unfolding fresh fresh_state words list_from
fresh_fields c few =
    record { setting = refl; n = refl; s = refl; high = refl; low = refl; P = refl; Q = refl; a = refl; h = filled_with places c.thresholds.count _ few }

zero_fields : Zeros zero_meter
unfolding zero_meter fresh_state words list_from no_list
zero_fields = record { setting = refl; n = refl; s = refl; high = refl; low = refl; P = refl; Q = refl; a = refl; h = filled_with places 0 0 (omega arith) }

pub refused_open : (c : Setting) → 0 < (open_call c).number → Zeros (open_call c).meter
unfolding open_call
refused_open c h = subst Zeros (sym (refused _ _ _ h)) zero_fields

-- a block is taken exactly when none of 2 and 4 to 11 applies, and then its samples are
pub block_taken : (m : Meter) (b : List ℕ) → ((block_call m b).number ≡ 0) ↔ NoneApplies (block_call_rules m b)
block_taken m b = (block_given m b).0.accepted

pub block_samples : (m : Meter) (b : List ℕ) → NoneApplies (block_call_rules m b) → (block_call m b).meter ≡ after_samples m (samples_in b)
unfolding block_call
block_samples m b n = accepted _ _ _ ((block_given m b).0.accepted.1 n)

-- an accepted chunk's samples are taken
pub chunk_samples : (m : Meter) (xs : List ℤ) → (chunk_call m xs).number ≡ 0 → (chunk_call m xs).meter ≡ after_samples m xs
unfolding chunk_call
chunk_samples m xs z = accepted _ _ _ z

-- an empty chunk is accepted where 2 does not refuse the meter, and changes nothing
pub empty_chunk : (m : Meter) → impossible m ≡ false → chunk_call m [] ≡ record { number = 0; meter = m }
unfolding chunk_call chunk_rules long_chunk too_many after_samples state_after
empty_chunk m ok =
    let few : m.state.sums.n.0 + 0 ≤ most_samples = omega (arith, (possible m ok).n_max) in
    ap (λ (n : ℕ). record { number = n; meter = cond (eqb n 0) m m })
    (sym (past 2 (impossible m) _ ok (past 3 (ltb 4096 0) _ refl (past 11 (too_many m 0) _ (le-ltb _ _ few) none))))

-- ---- the meter of all zeros gets 2 from every call

zeros_impossible : (m : Meter) → Zeros m → impossible m ≡ true
unfolding impossible any_of unnamed_code
zeros_impossible m z = simp (z.setting, zero_unnamed)

pub zeros_chunk : (m : Meter) → Zeros m → (xs : List ℤ) → (chunk_call m xs).number ≡ 2
unfolding chunk_call chunk_rules
zeros_chunk m z xs = sym (here 2 (impossible m) _ (zeros_impossible m z))

pub zeros_block : (m : Meter) → Zeros m → (b : List ℕ) → (block_call m b).number ≡ 2
unfolding block_call block_call_rules
zeros_block m z b = sym (here 2 (impossible m) _ (zeros_impossible m z))

pub zeros_report : (m : Meter) → Zeros m → (report_call m).number ≡ 2
unfolding report_call report_rules
zeros_report m z = sym (here 2 (impossible m) _ (zeros_impossible m z))

-- ---- what a report's number tells

-- a number other than 2 is 0 or one of 12 to 16
pub level_or_refusal : {m : Meter} {k : ℕ} {r : Report} → Answered m k r → (k ≡ 0) ⊎ ((12 ≤ k) × (k ≤ 16))
level_or_refusal (when_no_samples r z n) = inr (lit≤ tt, lit≤ tt)
level_or_refusal (when_no_signal r z n s) = inr (lit≤ tt, lit≤ tt)
level_or_refusal (when_no_activity r z n s a) = inr (lit≤ tt, lit≤ tt)
level_or_refusal (when_level_below r z a n d) = inr (lit≤ tt, lit≤ tt)
level_or_refusal (when_level_above r z a n d) = inr (lit≤ tt, lit≤ tt)
level_or_refusal (levels r j n s u a) = inl refl

-- 0 is given with levels, at the crossing that is used
pub record Levels (m : Meter) (r : Report) : Type 0 where
  pub n_pos : 0 < m.state.sums.n.0
  pub sq_pos : 0 < two_words m.state.sums.sq
  pub j : ℕ
  pub used : Used m j
  pub report : ReportAt m j r

pub with_levels : {m : Meter} {k : ℕ} {r : Report} → Answered m k r → k ≡ 0 → Levels m r
with_levels (when_no_samples r z n) e = absurd (omega arith)
with_levels (when_no_signal r z n s) e = absurd (omega arith)
with_levels (when_no_activity r z n s a) e = absurd (omega arith)
with_levels (when_level_below r z a n d) e = absurd (omega arith)
with_levels (when_level_above r z a n d) e = absurd (omega arith)
with_levels (levels r j n s u a) e = record { n_pos = n; sq_pos = s; j = j; used = u; report = a }

-- and where something was measured it is given wherever there is a crossing
pub crossed_levels : {m : Meter} {k : ℕ} {r : Report} → Answered m k r → Active m → (j : ℕ) → CrossingAt m j → k ≡ 0
crossed_levels (when_no_samples r z n) s j c = absurd (omega (arith, n, s.n))
crossed_levels (when_no_signal r z n q) s j c = absurd (omega (arith, q, s.sq))
crossed_levels (when_no_activity r z n q a) s j c = absurd (omega (arith, a, s.a))
crossed_levels (when_level_below r z a none d) s j c = absurd (none j c)
crossed_levels (when_level_above r z a none d) s j c = absurd (none j c)
crossed_levels (levels r i n q u a) s j c = refl

-- what a report takes the level of has one
pub levels_exist : (m : Meter) → impossible m ≡ false → LevelsExist m
levels_exist m ok =
    let p = possible m ok in
    let c = within (list_of m) (loaded (list_of m) p.list) in
    record {
      of_n = λ h. level_exists _ h (omega (arith, p.n_max));
      of_sq = λ h. level_exists _ h (omega (arith, p.sq_max, p.n_max));
      of_a = λ j l h. level_exists _ h (omega (arith, p.a_max j l, p.n_max));
      of_c = λ j l. level_exists _ (omega (arith, (c j l).0)) (omega (arith, (c j l).1));
      of_t = λ T h k. level_exists T h (omega arith);
    }

-- what is known of a crossing of a possible meter
pub crossing_of_lem : (m : Meter) → Possible m → (j : ℕ) → CrossingAt m j → Crossed (margin_of m) (power_of m) (list_of m) m.state.a j
crossing_of_lem m p j c =
    crossed (margin_of m) (power_of m) (list_of m) m.state.a j c.crosses
    (λ h. falling m p (j - 1) j (omega arith) c.place)
    (omega (arith, p.a_max (j - 1) (omega (arith, c.place)), p.n_max))

-- a report has levels only where 2 lets the meter pass
pub reportable : (m : Meter) → (report_call m).number ≡ 0 → impossible m ≡ false
unfolding NoneApplies report_rules
reportable m z = ((report_given m).0.accepted.0 z).0

-- T is the percentage of F, and of two reports that with the larger F has not the smaller T
pub percent_of_lem : (m : Meter) → (report_call m).number ≡ 0 → IsPercent (report_call m).report.levels.factor.0 (report_call m).report.percent.0
percent_of_lem m z = (with_levels (answered m (reportable m z)) z).report.T

pub percent_never_smaller : (m m' : Meter) → (report_call m).number ≡ 0 → (report_call m').number ≡ 0
    → le_z (report_call m).report.levels.factor.0 (report_call m').report.levels.factor.0 ≡ true
    → (report_call m).report.percent.0 ≤ (report_call m').report.percent.0
percent_never_smaller m m' z z' l = never_smaller _ _ l (percent_of_lem m z) (percent_of_lem m' z')

-- L is less than two steps from the exact level of all the time, 4096·log2(sq/n), either way
pub long_term_near : (m : Meter) → (report_call m).number ≡ 0 → Around (report_call m).report.levels.level.0 (two_words m.state.sums.sq) m.state.sums.n.0 m.state.sums.n.0
long_term_near m z =
    let ok = reportable m z in
    let p = possible m ok in
    let L = with_levels (answered m ok) z in
    subst (λ (l : ℤ). Around l (two_words m.state.sums.sq) m.state.sums.n.0 m.state.sums.n.0) (sym L.report.L)
    (long_term_lem _ _ L.sq_pos (omega (arith, p.sq_max, p.n_max)) L.n_pos (omega (arith, p.n_max)))

-- F is never above 0
pub factor_never_above : (m : Meter) → (report_call m).number ≡ 0 → lt_z (pos 0) (report_call m).report.levels.factor.0 ≡ false
factor_never_above m z =
    let ok = reportable m z in
    let p = possible m ok in
    let L = with_levels (answered m ok) z in
    let c = crossing_of_lem m p L.j L.used.crossing in
    ap (lt_z (pos 0)) L.report.F
    ∙ ap₂ (λ (y x : ℤ). lt_z (pos 0) (y -ℤ x)) L.report.L L.report.A
    ∙ factor (margin_of m) (power_of m) m.state.sums.n.0 (list_of m) m.state.a L.j c
    (p.a_max c.i (omega (arith, c.reach, L.used.crossing.place))) (omega (arith, p.n_max))
