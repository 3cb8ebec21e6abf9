-- The test of a row, and that a row whose test passes holds. A percentage is never searched for: its law tells it.
use mathlib.Core.Bool.{Bool, true, not, ◌&&◌, and-eq-true_iff}
use mathlib.Core.List.{List, [], ◌∷◌, ◌++◌}
use Rattle.std.specs.Prelude.{Some, None}
use mathlib.Core.Path.{◌≡◌, refl, sym, ◌∙◌}
use Prim.Native.Nat.{ℕ, zero, suc, ◌+◌, ◌-◌, ◌*◌, ◌^◌, ◌<◌}
use native.Mathlib.Omega.{arith}
use borrow.Author.Tests.{ne_eqb}
use lib.Dec.{eqb}
use lib.IntN.{ℤ, pos}
use lib.ListN.{length}
use Rattle.level.specs.Logarithm.{level_of}
use Rattle.rate.specs.declared.Rate.{Rate}
use Rattle.rate.specs.Rates.{rate_of, row_of, keeps_time}
use Rattle.block.specs.Refusals.{host_check}
use Rattle.block.specs.Written.{write_call}
use Rattle.percent.specs.Percent.{whole, not_above, percent_of}
use Rattle.percent.proofs.Laws.{percent_at, percent_only}
use Rattle.thresholds.specs.Lists.{threshold_of}
use Rattle.setting.specs.declared.Setting.{Setting}
use Rattle.meter.specs.declared.Meter.{Meter}
use Rattle.meter.specs.Calls.{open_call, chunk_call, report_call}
use Rattle.meter.proofs.Laws.{percent_of_lem}
use Rattle.exact.specs.Calls.{Call}
use Rattle.exact.specs.Demands.{taken_from, count_at}
use Rattle.exact.specs.Envelope.{envelope_after, exact_envelope_after}
use Rattle.exact.specs.Exact.{distance}
use Rattle.exact.specs.TwoCards.{DifferAtMost, size_at, Alike, OneLine, raised, meter_count}
use Rattle.figures.specs.Meters.{padded, counts_of}
use Rattle.figures.specs.Rows.{Carried, no_measurement, Shown, nothing, Values, Row, rate, timed, level, no_level, percent, sampled, reported, refused, opened, handed_in, answered, checked, made, played, counted, needs_two, cards, needs_d, sampled_meter, meter_from, exact_from, numbers_of, carried_by, measurement_of, shown_by, values_of, in_places, Holds, All}
use Rattle.figures.proofs.Tests.{Test, via, ◌and◌, always, never, is, is_not, unless, at_most, itself, ◌on◌, Equality, same_number, same_integer, same_answer, same_list, sameOption}

-- the percentage of a factor, by its law: two logarithms beside lev(10000)
abbrev percentage : (F : ℤ) (T : ℕ) → Test (percent_of F ≡ T)
percentage F T =
    via (λ h. percent_at F T h.0 (λ l. h.1.0 (ne_eqb T 0 (λ e. omega arith))) (λ l. h.1.1 (ne_eqb T whole (λ e. omega arith))))
    (at_most T whole
    and unless (eqb T 0) (is (not_above F T))
    and unless (eqb T whole) (is_not (not_above F (T + 1))))

-- what a report on a meter carries and shows, a rate, and values, by their fields
abbrev carried : (n : ℕ) (s : ℤ) (high low : ℕ) (a : List ℕ) → Carried
carried n s high low a = record { n = n; s = s; high = high; low = low; a = a }

abbrev pub same_carried : Equality Carried
same_carried x y =
    itself carried
    on same_number x.n y.n
    on same_integer x.s y.s
    on same_number x.high y.high
    on same_number x.low y.low
    on same_list same_number x.a y.a

abbrev rate_with : (code hertz K I D : ℕ) → Rate
rate_with code hertz K I D = record { code = code; hertz = hertz; k = K; i = I; d = D }

abbrev pub same_rate : Equality Rate
same_rate x y =
    itself rate_with
    on same_number x.code y.code
    on same_number x.hertz y.hertz
    on same_number x.k y.k
    on same_number x.i y.i
    on same_number x.d y.d

abbrev shown : (L A C F : ℤ) (lower upper T : ℕ) (M : ℤ) (mark : Bool) → Shown
shown L A C F lower upper T M mark = record { L = L; A = A; C = C; F = F; lower = lower; upper = upper; T = T; M = M; mark = mark }

abbrev reported_percentage : (m : Meter) (T : ℕ) → Test ((report_call m).report.percent.0 ≡ T)
reported_percentage m T =
    via (λ h. sym (percent_only _ (percent_of_lem m h.0)) ∙ h.1)
    (same_number (report_call m).number 0 and percentage (report_call m).report.levels.factor.0 T)

unfoldable pub same_shown : (m : Meter) (y : Shown) → Test ((report_call m).report.percent.0 ≡ y.T) → Test (shown_by (report_call m).report ≡ y)
unfolding shown_by
same_shown m y samePercentage =
    let x = shown_by (report_call m).report in
    itself shown
    on same_integer x.L y.L
    on same_integer x.A y.A
    on same_integer x.C y.C
    on same_integer x.F y.F
    on same_number x.lower y.lower
    on same_number x.upper y.upper
    on samePercentage
    on same_integer x.M y.M
    on same_answer x.mark y.mark

abbrev values : (code : ℕ) (offset margin : ℤ) (count : ℕ) (c : List ℕ) (n : ℕ) (s : ℤ) (high low P Q : ℕ) (a h : List ℕ) → Values
values code offset margin count c n s high low P Q a h = record { code = code; offset = offset; margin = margin; count = count; c = c; n = n; s = s; high = high; low = low; P = P; Q = Q; a = a; h = h }

abbrev pub same_values : Equality Values
same_values x y =
    itself values
    on same_number x.code y.code
    on same_integer x.offset y.offset
    on same_integer x.margin y.margin
    on same_number x.count y.count
    on same_list same_number x.c y.c
    on same_number x.n y.n
    on same_integer x.s y.s
    on same_number x.high y.high
    on same_number x.low y.low
    on same_number x.P y.P
    on same_number x.Q y.Q
    on same_list same_number x.a y.a
    on same_list same_number x.h y.h

-- that two cards are on one line, by their samples in pairs: one pair, and the rest
pub alike_both : {d : ℕ} {o : ℤ} {x x' : ℤ} {xs xs' : List ℤ} → DifferAtMost d (distance o x) (distance o x') → Alike d o xs xs' → Alike d o (x ∷ xs) (x' ∷ xs')
alike_both {d} {o} {x} {x'} {xs} {xs'} w s = record { equally_many = omega (arith, s.equally_many); sizes = at_place }
  where
    at_place : (i : ℕ) → i < length (x ∷ xs) → DifferAtMost d (size_at o (x ∷ xs) i) (size_at o (x' ∷ xs') i)
    at_place zero l = w
    at_place (suc i) l = s.sizes i (omega arith)

unfoldable pub alike : (d : ℕ) (o : ℤ) (xs xs' : List ℤ) → Test (Alike d o xs xs')
alike d o [] [] = always (record { equally_many = refl; sizes = λ i l. absurd (omega arith) })
alike d o [] (x' ∷ xs') = never
alike d o (x ∷ xs) [] = never
alike d o (x ∷ xs) (x' ∷ xs') =
    via (λ h. alike_both h.0 h.1)
    ((at_most (distance o x) (distance o x' + d) and at_most (distance o x') (distance o x + d)) and alike d o xs xs')

abbrev one_line : (d : ℕ) (c c' : Setting) (calls calls' : List Call) → Test (OneLine d c c' calls calls')
one_line d c c' calls calls' =
    via (λ h. record { opens = h.0; opens' = h.1.0; rate = h.1.1.0; offset = h.1.1.1.0; samples = h.1.1.1.1 })
    (same_number (open_call c).number 0
    and same_number (open_call c').number 0
    and same_number c'.code c.code
    and same_integer c'.offset c.offset
    and alike d c.offset (taken_from c calls) (taken_from c' calls'))

-- the test of what a row says
unfoldable pub test_of : (r : Row) → Test (Holds r)
unfolding Holds
test_of (rate code hertz K I D) = sameOption same_rate (rate_of code) (Some (rate_with code hertz K I D))
test_of (timed f K) = is (keeps_time f K)
test_of (level N v) = sameOption same_integer (level_of N) (Some (pos v))
test_of (no_level N) = sameOption same_integer (level_of N) None
test_of (percent F T) = percentage F T
test_of (sampled c xs P Q a number) =
    let m = sampled_meter c xs in
    via (λ h. (h.0, h.1.0, h.1.1.0, h.1.1.1))
    (same_number m.state.sums.p P
    and same_number m.state.sums.q Q
    and same_list same_number (counts_of m) (padded a)
    and same_number (report_call m).number number)
test_of (reported m r) =
    via (λ h. (h.0, h.1.0, h.1.1))
    (same_number (report_call m).number 0
    and same_carried (carried_by (report_call m).report) (measurement_of m)
    and same_shown m r (reported_percentage m r.T))
test_of (refused m number) =
    via (λ h. (h.0, h.1.0, h.1.1))
    (same_number (report_call m).number number
    and same_carried (carried_by (report_call m).report) no_measurement
    and same_shown m nothing (same_number (report_call m).report.percent.0 nothing.T))
test_of (opened c number) = same_number (open_call c).number number
test_of (handed_in m number) = same_number (chunk_call m []).number number
test_of (answered m calls numbers) = same_list same_number (numbers_of m calls) numbers
test_of (checked bytes code number) = same_number (host_check bytes code) number
test_of (made code before xs buffer number after) =
    let w = write_call code before xs buffer in
    same_number w.number number and same_list same_number w.buffer after
test_of (played c calls v) = same_values (values_of (meter_from c calls)) (in_places v)
test_of (counted s calls c u) = same_number (count_at (exact_from s calls) c) u
test_of (needs_two c calls A) =
    let r = (report_call (meter_from c calls)).report in
    let e = exact_from c calls in
    same_integer r.levels.active.0 (pos A)
    and at_most (2 ^ (A + 1) * count_at e (threshold_of c.thresholds r.levels.lower) ^ 4096) (e.sq ^ 4096)
test_of (cards d c c' calls calls' j t u a) =
    via (λ h. (h.0, h.1.0, h.1.1.0, h.1.1.1))
    (one_line d c c' calls calls'
    and same_number (raised d c' j) t
    and same_number (count_at (exact_from c calls) t) u
    and same_number (meter_count c' calls' j) a)
test_of (needs_d c xs Q) =
    let r = row_of c.code in
    let o = c.offset in
    let q = exact_envelope_after r.k r.i o xs in
    same_number (envelope_after c.thresholds r.k r.i o xs) Q and at_most ((Q + (r.d - 1)) * q.under) q.over

unfoldable pub test : Row → Bool
test r = (test_of r).passes

pub sound_test : (r : Row) → test r ≡ true → Holds r
unfolding test
sound_test r e = (test_of r).shows e

-- whether all rows of a table pass a test
unfoldable pub all_true : (Row → Bool) → List Row → Bool
all_true f [] = true
all_true f (r ∷ rows) = f r && all_true f rows

-- whether none of them does
unfoldable pub none_true : (Row → Bool) → List Row → Bool
none_true f [] = true
none_true f (r ∷ rows) = not (f r) && none_true f rows

pub sound_table : (rows : List Row) → all_true test rows ≡ true → All rows
unfolding all_true All
sound_table [] e = tt
sound_table (r ∷ rows) e =
    let h = (and-eq-true_iff (test r) (all_true test rows)).0 e in
    (sound_test r h.0, sound_table rows h.1)

-- two tables on end
pub joined : (rows others : List Row) → All rows → All others → All (rows ++ others)
unfolding All
joined [] others a b = b
joined (r ∷ rows) others a b = (a.0, joined rows others a.1 b)
