-- The claim, used: each clause at an end of what it is about, so that a claim that says less no longer proves what stands here. That what the clauses
-- speak of leaves nothing to choice is shown where it is: `only` and `untouched_once` of `meter`, `worked_once` beside this file.
use mathlib.Core.Bool.{true, false, cond}
use mathlib.Core.List.{List, [], ◌∷◌}
use mathlib.Core.Logic.{◌⊎◌}
use Rattle.std.specs.Prelude.{Some}
use mathlib.Core.Path.{◌≡◌, refl, sym, ap, ◌∙◌}
use Prim.Native.Nat.{ℕ, zero, suc, ◌+◌, ◌*◌, ◌^◌, ◌≤◌, ◌<◌}
use native.Mathlib.Nat.{le_antisymm, le_of_eq, lt_of_le_of_lt}
use native.Mathlib.Omega.{arith}
use borrow.Author.Tests.{ne_eqb}
use lib.Dec.{eqb, lit<, lit≤}
use lib.IntN.{ℤ, pos, negsuc, ◌+ℤ◌}
use lib.ListN.{length, get_or}
use Rattle.std.proofs.lemmas.Int.{ints}
use lib.Signed.{lt_z, le_z}
use mir.Syntax.{w16}
use mir.Val.{SFits}
use Rattle.level.specs.Logarithm.{lev, level_of, Facts}
use Rattle.level.specs.Types.{activity, two_words}
use Rattle.level.proofs.Laws.{pow_lt_cancel}
use Rattle.thresholds.specs.Lists.{held_of, doubled, built_in_list, threshold_of, wrong_length, wrong_entry, wrong_end, list_rules}
use Rattle.thresholds.specs.Places.{list_from, up_to, some_below, some_from}
use Rattle.rate.specs.Rates.{rate_of, is_named, row_of, Ceiling, keeps_time}
use Rattle.refusal.specs.First.{first_of, NoneApplies, applies, Lowest}
use Rattle.refusal.proofs.Laws.{lowest_given}
use Rattle.setting.specs.declared.Setting.{Setting}
use Rattle.setting.specs.Settings.{k_of, i_of, d_of, usual_setting, with_offset, with_margin, with_thresholds, wrong_margin}
use Rattle.crossing.specs.Levels.{level_of_threshold}
use Rattle.coding.specs.Typed.{AllSamples, AllBytes}
use Rattle.block.specs.Block.{rate_code, count, before, samples_in}
use Rattle.block.specs.Refusals.{sound, host_rules, host_check}
use Rattle.block.specs.Written.{Written, write_rules, write_call}
use Rattle.sample.specs.Sample.{fresh_state, state_after}
use Rattle.meter.specs.declared.Meter.{Meter}
use Rattle.meter.specs.declared.Report.{Report}
use Rattle.meter.specs.Answered.{CrossingAt, Active}
use Rattle.meter.specs.Calls.{Handed, fresh, counting_of, after_samples, open_call, chunk_call, block_call, report_call}
use Rattle.meter.specs.Opened.{Fresh, Zeros}
use Rattle.meter.specs.Refusals.{unnamed_code, impossible, open_rules, chunk_rules, block_call_rules}
use Rattle.meter.specs.Reports.{report_rules}
use Rattle.meter.proofs.Laws.{level_or_refusal}
use Rattle.meter.proofs.Only.{untouched_once}
use Rattle.exact.specs.Calls.{Call, chunk, block, Typed}
use Rattle.exact.specs.Demands.{Opens, meter_after, report_after, answers_to, taken_from, exact_at, exact_after, count_at, sum, sum_of_squares, NothingLost, Demand3}
use Rattle.exact.specs.Envelope.{envelope_after, exact_envelope_after, EnvelopeBound}
use Rattle.exact.specs.Exact.{E, answers_of_e, took}
use Rattle.exact.specs.Fractions.{AtLeast, LessThan}
use Rattle.exact.specs.Lists.{called, after}
use Rattle.exact.specs.NoOffset.{raw_after}
use Rattle.exact.specs.TwoCards.{Alike, meter_count, TwoCards}
use Rattle.exact.specs.Worked.{AtFirst, Worked}
use Rattle.exact.proofs.Claim.{claim}
use Rattle.exact.proofs.Signs.{Whole, at_sign}
use Rattle.exact.proofs.AsStated.{worked_once}

-- ---- the ends: the last code, the lowest offset, the least margin and a list of 24, up to 2^39; and there the largest margin and the built-in list

abbrev lowest : ℤ
lowest = negsuc 32767

abbrev longest : List ℕ
longest = 2 ^ 22 ∷ 3 * 2 ^ 21 ∷ 2 ^ 23 ∷ 3 * 2 ^ 22 ∷ 2 ^ 24 ∷ 3 * 2 ^ 23 ∷ 2 ^ 25 ∷ 3 * 2 ^ 24 ∷ 2 ^ 26 ∷ 3 * 2 ^ 25 ∷ 2 ^ 27 ∷ 3 * 2 ^ 26 ∷ list_from (λ j. 2 ^ (28 + j)) 0 12

abbrev plain : Setting
plain = with_margin (pos 22314) (with_offset lowest (usual_setting 5))

abbrev farther : Setting
farther = with_thresholds (held_of longest) plain

abbrev far : Setting
far = with_margin (pos 1) farther

far_opens : Opens far
unfolding open_call first_of open_rules unnamed_code is_named rate_of wrong_margin list_rules wrong_length wrong_entry wrong_end held_of list_from some_below some_from
far_opens = refl

farther_opens : Opens farther
unfolding open_call first_of open_rules unnamed_code is_named rate_of wrong_margin list_rules wrong_length wrong_entry wrong_end held_of list_from some_below some_from
farther_opens = refl

plain_opens : Opens plain
unfolding open_call first_of open_rules unnamed_code is_named rate_of wrong_margin list_rules wrong_length wrong_entry wrong_end built_in_list doubled list_from up_to some_below some_from
plain_opens = refl

fits : SFits w16 lowest
fits = record { sfits = lit< tt }

-- ---- demand 1

module _ (calls : List Call) (typed : Typed calls) where
  lost : NothingLost far calls
  lost = claim.demand1.nothing_lost far calls fits far_opens typed

  n_kept : (meter_after far calls).state.sums.n.0 ≡ length (taken_from far calls)
  n_kept = lost.total

  s_kept : (meter_after far calls).state.sums.s ≡ sum (taken_from far calls)
  s_kept = lost.sums

  sq_kept : two_words (meter_after far calls).state.sums.sq ≡ sum_of_squares lowest (taken_from far calls)
  sq_kept = lost.squares

  passes : impossible (meter_after far calls) ≡ false
  passes = lost.possible

-- the number of each call is the lowest that applies
open_lowest : (c : Setting) (i : ℕ) → applies (open_rules c) i ≡ true → Lowest (open_rules c) i → (open_call c).number ≡ i
open_lowest c = lowest_given (claim.demand1.open_number c)

chunk_lowest : (m : Meter) (xs : List ℤ) (i : ℕ) → applies (chunk_rules m xs) i ≡ true → Lowest (chunk_rules m xs) i → (chunk_call m xs).number ≡ i
chunk_lowest m xs = lowest_given (claim.demand1.chunk_number m xs)

block_lowest : (m : Meter) (b : List ℕ) (i : ℕ) → applies (block_call_rules m b) i ≡ true → Lowest (block_call_rules m b) i → (block_call m b).number ≡ i
block_lowest m b = lowest_given (claim.demand1.block_number m b)

report_lowest : (m : Meter) (i : ℕ) → applies (report_rules m) i ≡ true → Lowest (report_rules m) i → (report_call m).number ≡ i
report_lowest m = lowest_given (claim.demand1.report_number m)

host_lowest : (b : List ℕ) (code i : ℕ) → applies (host_rules b code) i ≡ true → Lowest (host_rules b code) i → host_check b code ≡ i
host_lowest b code = lowest_given (claim.demand1.host_number b code)

write_lowest : (code n : ℕ) (xs : List ℤ) (b : List ℕ) (i : ℕ) → applies (write_rules code n xs b) i ≡ true → Lowest (write_rules code n xs b) i
    → (write_call code n xs b).number ≡ i
write_lowest code n xs b = lowest_given (claim.demand1.write_number code n xs b)

-- what is handed back is either of two meters, by the number
by_number : {A : Type 0} {x accepted refused : A} (k : ℕ) → (k ≡ 0 → x ≡ accepted) → (0 < k → x ≡ refused) → x ≡ cond (eqb k 0) accepted refused
by_number zero f g = f refl
by_number (suc k) f g = g (omega arith) ∙ sym (simp (ne_eqb (suc k) 0 (λ e. omega arith)))

chunk_hands : (m : Meter) (xs : List ℤ) → (chunk_call m xs).meter ≡ cond (eqb (chunk_call m xs).number 0) (after_samples m xs) m
chunk_hands m xs = by_number (chunk_call m xs).number (claim.demand2.chunk_samples m xs) (claim.demand1.chunk_refused m xs)

block_hands : (m : Meter) (b : List ℕ) → (block_call m b).meter ≡ cond (eqb (block_call m b).number 0) (after_samples m (samples_in b)) m
block_hands m b = by_number (block_call m b).number (claim.demand2.block_samples m b) (claim.demand1.block_refused m b)

report_hands : (m : Meter) → (report_call m).meter ≡ m
report_hands m = claim.demand1.report_hands_back m

unwritten : (n : ℕ) (xs : List ℤ) (b : List ℕ) → (write_call 6 n xs b).number ≡ 1 → (write_call 6 n xs b).buffer ≡ b
unwritten n xs b h = claim.demand1.write_refused 6 n xs b (omega (arith, h))

-- a refused opening hands back the one meter of all zeros, which no call changes and no report is given on
module _ (c : Setting) (refused : 0 < (open_call c).number) where
  zeros : Zeros (open_call c).meter
  zeros = claim.demand1.open_refused c refused

  one_meter : (m : Meter) → Zeros m → (open_call c).meter ≡ m
  one_meter m z = untouched_once zeros z

  unchanged : (calls : List Call) → after (open_call c).meter calls ≡ (open_call c).meter
  unfolding after called
  unchanged [] = refl
  unchanged (chunk xs ∷ calls) =
      let m = (open_call c).meter in
      ap (λ (k : Meter). after k calls) (claim.demand1.chunk_refused m xs (omega (arith, claim.demand1.zeros_chunk m zeros xs))) ∙ unchanged calls
  unchanged (block b ∷ calls) =
      let m = (open_call c).meter in
      ap (λ (k : Meter). after k calls) (claim.demand1.block_refused m b (omega (arith, claim.demand1.zeros_block m zeros b))) ∙ unchanged calls

  no_report_lem : ((report_call (open_call c).meter).number ≡ 2) × ((report_call (open_call c).meter).report.margin.0 ≡ pos 0)
  no_report_lem =
      let two = claim.demand1.zeros_report (open_call c).meter zeros in
      (two, (claim.demand1.report_refused (open_call c).meter (omega (arith, two))).M)

-- ---- demand 2

one_fresh : (m : Meter) → Fresh far m → (open_call far).meter ≡ m
one_fresh m f = untouched_once (claim.demand2.opened far far_opens) f

measured : (calls : List Call) → (meter_after far calls).state ≡ state_after (record { k = 728; i = 9600; offset = lowest }) (held_of longest) (fresh_state 24 9600) (taken_from far calls)
unfolding counting_of k_of i_of row_of rate_of held_of fresh_state up_to list_from
measured calls = ap (λ (m : Meter). m.state) (claim.demand2.measured far calls far_opens)

no_offset : (xs : List ℤ) → (after_samples (fresh (usual_setting 5)) xs).state ≡ raw_after built_in_list 728 9600 (fresh_state 15 9600) xs
unfolding k_of i_of row_of rate_of built_in_list
no_offset xs = claim.demand2.no_offset (usual_setting 5) xs refl

-- at both ends of the margin
same_answers : (calls : List Call) → Typed calls → answers_to farther calls ≡ answers_to far calls
same_answers calls typed = (claim.demand2.any_margin far farther calls fits far_opens farther_opens typed refl refl refl).answers

same_state : (calls : List Call) → Typed calls → (meter_after farther calls).state ≡ (meter_after far calls).state
same_state calls typed = (claim.demand2.any_margin far farther calls fits far_opens farther_opens typed refl refl refl).state

last_threshold : threshold_of built_in_list 14 ≡ 2 ^ 38
last_threshold = claim.demand2.built_in 14 (lit< tt)

last_place : threshold_of built_in_list 23 ≡ 0
last_place = claim.demand2.built_in_past 23 (lit≤ tt)

last_level : level_of_threshold (threshold_of built_in_list 14) ≡ pos 114688
last_level = claim.demand2.built_in_levels 14 (lit< tt)

last_opens : Opens (usual_setting 5)
unfolding is_named rate_of
last_opens = claim.demand2.usual_opens 5 refl

level_or_one_of_five : (m : Meter) → impossible m ≡ false → ((report_call m).number ≡ 0) ⊎ ((12 ≤ (report_call m).number) × ((report_call m).number ≤ 16))
level_or_one_of_five m ok = level_or_refusal (claim.demand2.reported m ok)

not_above_lem : (m : Meter) → (report_call m).number ≡ 0 → lt_z (pos 0) (report_call m).report.levels.factor.0 ≡ false
not_above_lem m z = claim.demand2.factor m z

no_crossing : (m : Meter) → impossible m ≡ false → Active m → (report_call m).number ≡ 15 → (j : ℕ) → CrossingAt m j → ⊥
no_crossing m ok a e j c = absurd (omega (arith, e, (claim.demand2.unaffected m ok a).1 (j, c)))

a_crossing : (m : Meter) → impossible m ≡ false → Active m → (report_call m).number ≡ 0 → (j : ℕ) × CrossingAt m j
a_crossing m ok a z = (claim.demand2.unaffected m ok a).0 z

same_percent : (m m' : Meter) → (report_call m).number ≡ 0 → (report_call m').number ≡ 0 → (report_call m).report.levels.factor.0 ≡ (report_call m').report.levels.factor.0
    → (report_call m).report.percent.0 ≡ (report_call m').report.percent.0
same_percent m m' z z' e =
    le_antisymm (claim.demand2.percent_never_falls m m' z z' (at_most e)) (claim.demand2.percent_never_falls m' m z' z (at_most (sym e)))
  where
    at_most : {F G : ℤ} → F ≡ G → le_z F G ≡ true
    at_most e = grind (arith, ints)

taken : (m : Meter) (b : List ℕ) → NoneApplies (block_call_rules m b) → (block_call m b).number ≡ 0
taken m b n = (claim.demand2.block_taken m b).1 n

empty : chunk_call (open_call far).meter [] ≡ record { number = 0; meter = (open_call far).meter }
unfolding after Typed
empty = claim.demand2.empty_chunk (open_call far).meter (claim.demand1.nothing_lost far [] fits far_opens tt).possible

module _ (n : ℕ) (xs : List ℤ) (b : List ℕ) (typed : AllSamples xs) (ok : (write_call 5 n xs b).number ≡ 0) where
  read_back : samples_in (write_call 5 n xs b).buffer ≡ xs
  read_back = (claim.demand2.written 5 n xs b typed ok).samples

  host_passes : host_check (write_call 5 n xs b).buffer 5 ≡ 0
  host_passes = (claim.demand2.written 5 n xs b typed ok).checked

  meter_takes : (m : Meter) → m.setting.code ≡ 5 → m.state.sums.n.0 ≡ n → impossible m ≡ false → (block_call m (write_call 5 n xs b).buffer).meter ≡ after_samples m xs
  meter_takes m c e p = ap (λ (h : Handed). h.meter) ((claim.demand2.written 5 n xs b typed ok).taken m c e p)

afresh : (b buffer : List ℕ) → AllBytes b → sound b ≡ true → before b + count b ≡ 2 ^ 48 → length buffer ≡ 512 → (write_call (rate_code b) (before b) (samples_in b) buffer).buffer ≡ b
afresh b buffer bytes s e l = ap (λ (w : Written). w.buffer) (claim.demand2.afresh b buffer bytes s (le_of_eq e) l)

-- ---- demand 3

module _ (calls : List Call) (typed : Typed calls) where
  D : Demand3 far calls
  D = claim.demand3 far calls fits far_opens typed

  -- whatever is worked over fractions from E's beginning counts what E counts
  one_e : (e e' : E) → AtFirst far e → Worked e (took (exact_at far) calls) e' → (t : ℕ) → count_at (exact_after far calls) t ≡ e'.u t
  one_e e e' a w t = worked_once D.at_first D.worked t ∙ sym (worked_once a w t)

  alike : answers_to far calls ≡ answers_of_e (exact_at far) calls
  alike = D.same_calls

  as_many : (exact_after far calls).y ≡ (meter_after far calls).state.sums.n.0
  as_many = D.same_total

  squares : (exact_after far calls).sq ≡ sum_of_squares lowest (took (exact_at far) calls)
  squares = D.exact_squares

  own_squares : (exact_after far calls).sq ≡ two_words (meter_after far calls).state.sums.sq
  own_squares = D.same_squares

  -- the last threshold, 2^39, and it raised by 2881
  at_most : activity (meter_after far calls).state.a 23 ≤ count_at (exact_after far calls) (2 ^ 39)
  unfolding held_of list_from
  at_most = D.at_most 23 (lit< tt)

  at_least : count_at (exact_after far calls) (2 ^ 39 + 2881) ≤ activity (meter_after far calls).state.a 23
  unfolding held_of list_from d_of row_of rate_of
  at_least = D.at_least 23 (lit< tt)

  first_to_last : activity (meter_after far calls).state.a 23 ≤ activity (meter_after far calls).state.a 0
  unfolding held_of list_from
  first_to_last = D.never_rises 0 23 (lit≤ tt) (lit< tt)

  answered : ((report_after far calls).number ≡ 0) ⊎ ((12 ≤ (report_after far calls).number) × ((report_after far calls).number ≤ 16))
  answered = level_or_refusal D.report

  module _ (z : (report_after far calls).number ≡ 0) where
    abbrev r : Report
    r = (report_after far calls).report

    bounds : Whole r.levels.active.0 ((exact_after far calls).sq ^ 4096) (count_at (exact_after far calls) (threshold_of (held_of longest) r.levels.lower) ^ 4096) (count_at (exact_after far calls) (threshold_of (held_of longest) r.levels.upper + 2881) ^ 4096)
    unfolding d_of row_of rate_of
    bounds = at_sign (held_of longest) (pos 1) r (exact_after far calls) 2881 (D.levels z)

    margin_above : le_z (level_of_threshold (threshold_of (held_of longest) r.levels.lower) +ℤ pos 1) r.levels.active.0 ≡ true
    margin_above = (D.levels z).at_least_margin

  -- with the built-in list: the last place past it, and levels above 0
  P : Demand3 plain calls
  P = claim.demand3 plain calls fits plain_opens typed

  last_is_empty : (threshold_of (meter_after plain calls).setting.thresholds 23 ≡ 0) × (activity (meter_after plain calls).state.a 23 ≡ 0) × (get_or (meter_after plain calls).state.h 23 0 ≡ 0)
  unfolding built_in_list
  last_is_empty = let e = P.past_end 23 (lit≤ tt) (lit< tt) in (e.threshold, e.count, e.hangover)

  above_zero : (report_after plain calls).number ≡ 0 → lt_z (pos 0) (report_after plain calls).report.levels.active.0 ≡ true
  above_zero z = P.above_zero refl z

-- ---- the logarithm and the rates

-- another logarithm that has the facts is at most one step off
one_step : (f : ℕ → ℕ) → Facts f → (n : ℕ) → 1 ≤ n → n ≤ 2 ^ 80 → (lev n ≤ f n + 1) × (f n ≤ lev n + 1)
one_step f F n l u =
    let a = pow_lt_cancel (lt_of_le_of_lt (claim.facts.at_most n l u) (F.less_than n l u)) in
    let b = pow_lt_cancel (lt_of_le_of_lt (F.at_most n l u) (claim.facts.less_than n l u)) in
    (omega (arith, a), omega (arith, b))

never_falls : lev 1 ≤ lev (2 ^ 80)
never_falls = claim.facts.never_falls 1 (2 ^ 80) (lit≤ tt) (lit≤ tt) (lit≤ tt)

module _ (m : Meter) (ok : impossible m ≡ false) where
  of_n : 0 < m.state.sums.n.0 → level_of m.state.sums.n.0 ≡ Some (pos (lev m.state.sums.n.0))
  of_n = (claim.levels_exist m ok).of_n

  of_sq : 0 < two_words m.state.sums.sq → level_of (two_words m.state.sums.sq) ≡ Some (pos (lev (two_words m.state.sums.sq)))
  of_sq = (claim.levels_exist m ok).of_sq

  of_a : (j : ℕ) → j < m.setting.thresholds.count → 0 < activity m.state.a j → level_of (activity m.state.a j) ≡ Some (pos (lev (activity m.state.a j)))
  of_a = (claim.levels_exist m ok).of_a

  of_c : (j : ℕ) → j < m.setting.thresholds.count → level_of (threshold_of m.setting.thresholds j) ≡ Some (pos (lev (threshold_of m.setting.thresholds j)))
  of_c = (claim.levels_exist m ok).of_c

  of_t : level_of 10000 ≡ Some (pos (lev 10000))
  of_t = (claim.levels_exist m ok).of_t 10000 (lit≤ tt) (lit≤ tt)

-- the smoothing time, at any rate: at one code the checker would compute it, whatever the claim says; then I and D at the last
in_time : (code : ℕ) → is_named code ≡ true → keeps_time (row_of code).hertz (row_of code).k ≡ true
in_time code n = (claim.rates code n).time_rule

least_i : (i : ℕ) → 48000 ≤ i * 5 → 9600 ≤ i
unfolding is_named row_of rate_of
least_i = (claim.rates 5 refl).i_rule.smallest

least_d : (d : ℕ) → 2 ^ 21 ≤ d * 728 → 2881 ≤ d
unfolding is_named row_of rate_of
least_d = (claim.rates 5 refl).d_rule.smallest

-- the envelope at both ends of K
slow_and_fast : (I : ℕ) (xs : List ℤ)
    → LessThan (exact_envelope_after 1 I lowest xs) (envelope_after built_in_list 1 I lowest xs + 2 ^ 21) × LessThan (exact_envelope_after (2 ^ 20) I lowest xs) (envelope_after built_in_list (2 ^ 20) I lowest xs + 2)
slow_and_fast I xs = ((claim.envelope built_in_list 1 I (2 ^ 21) lowest xs (lit≤ tt) (lit≤ tt) slow).less_than_d, (claim.envelope built_in_list (2 ^ 20) I 2 lowest xs (lit≤ tt) (lit≤ tt) fast).less_than_d)
  where
    slow : Ceiling (2 ^ 21) 1 (2 ^ 21)
    slow = record { not_below = lit≤ tt; smallest = λ x h. omega (arith, h) }

    fast : Ceiling (2 ^ 21) (2 ^ 20) 2
    fast = record { not_below = lit≤ tt; smallest = λ x h. omega (arith, h) }

-- L9's "of which the five rates are uses"
at_each_rate : (code : ℕ) → is_named code ≡ true → (xs : List ℤ) → let r = row_of code in EnvelopeBound built_in_list r.k r.i r.d lowest xs
at_each_rate code n xs = let r = claim.rates code n in claim.envelope built_in_list _ _ _ lowest xs r.k_low r.k_high r.d_rule

never_over : (K I D : ℕ) (xs : List ℤ) → 1 ≤ K → K ≤ 2 ^ 20 → Ceiling (2 ^ 21) K D → AtLeast (exact_envelope_after K I lowest xs) (envelope_after built_in_list K I lowest xs)
never_over K I D xs l u d = (claim.envelope built_in_list K I D lowest xs l u d).never_above

-- ---- two cards, 70000 intervals apart

module _ (calls calls' : List Call) (typed : Typed calls) (typed' : Typed calls') (alike : Alike 70000 lowest (taken_from far calls) (taken_from plain calls')) where
  T : TwoCards 70000 far plain calls calls'
  T = claim.two_cards 70000 far plain calls calls' fits typed typed' (record { opens = far_opens; opens' = plain_opens; rate = refl; offset = refl; samples = alike })

  -- at the last threshold of each
  never_above : count_at (exact_after far calls) (2 ^ 38 + 70000 * 2 ^ 24 + 2881) ≤ meter_count plain calls' 14
  unfolding built_in_list up_to doubled list_from d_of row_of rate_of
  never_above = T.first.never_above 14 (lit< tt)

  exchanged : count_at (exact_after plain calls') (2 ^ 39 + 70000 * 2 ^ 24 + 2881) ≤ meter_count far calls 23
  unfolding held_of list_from d_of row_of rate_of
  exchanged = T.exchanged.never_above 23 (lit< tt)

  exceeds_at_most : meter_count far calls 23 + count_at (exact_after far calls) (2 ^ 38 + 70000 * 2 ^ 24 + 2881) ≤ meter_count plain calls' 14 + count_at (exact_after far calls) (2 ^ 39)
  unfolding built_in_list up_to doubled held_of list_from d_of row_of rate_of
  exceeds_at_most = T.first.exceeds_at_most 23 14 (lit< tt) (lit< tt)

-- where the samples are the same, so are the counts: the meters alone, both ways
no_noise : {calls calls' : List Call} → TwoCards 0 far farther calls calls' → (j : ℕ) → j < 24 → meter_count far calls j ≡ meter_count farther calls' j
unfolding held_of list_from
no_noise t j l = le_antisymm (t.first.meters_alone j j l l (omega arith)) (t.exchanged.meters_alone j j l l (omega arith))
