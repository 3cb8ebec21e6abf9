-- The customer's three demands, each a record with a field for each clause of its sentence. What only the check of the code can show stands as a comment
-- that names the contracts. What is in quotes are his words; his "document 01" is the scope that docs/METHOD.md states, as his requests amend it.
use Rattle.std.specs.Prelude.{Bool, true, false, List, [], ◌∷◌, ◌↔◌, ◌≡◌, ℕ, ◌+◌, ◌*◌, ◌^◌, ◌≤◌, ◌<◌, ℤ, pos, nat_abs, ◌+ℤ◌, ◌-ℤ◌, length, get_or}
use Rattle.std.specs.Int.Signed.{lt_z, le_z}
use Rattle.std.specs.Int.{w16}
use Rattle.std.proofs.Common.{SFits}
use Rattle.level.specs.Types.{most_samples, activity, two_words}
use Rattle.thresholds.specs.declared.Thresholds.{Thresholds}
use Rattle.thresholds.specs.Lists.{places, built_in_list, built_in_count, threshold_of}
use Rattle.crossing.specs.Exponents.{above, below}
use Rattle.crossing.specs.Levels.{level_of_threshold}
use Rattle.rate.specs.Rates.{is_named}
use Rattle.refusal.specs.First.{Rule, NoneApplies, Given, Lowest}
use Rattle.setting.specs.declared.Setting.{Setting}
use Rattle.setting.specs.Settings.{i_of, d_of, usual_setting}
use Rattle.block.specs.Block.{rate_code, count, before, samples_in}
use Rattle.block.specs.Refusals.{sound, host_rules, host_check}
use Rattle.coding.specs.Typed.{AllSamples, AllBytes}
use Rattle.block.specs.Written.{write_rules, write_call}
use Rattle.sample.specs.Sample.{fresh_state, state_after}
use Rattle.meter.specs.declared.Meter.{Meter}
use Rattle.meter.specs.declared.Report.{Report}
use Rattle.meter.specs.Answered.{CrossingAt, AllZero, Active, Answered}
use Rattle.meter.specs.Calls.{HandedReport, counting_of, after_samples, open_call, chunk_call, block_call, report_call}
use Rattle.meter.specs.Opened.{Fresh, Zeros}
use Rattle.meter.specs.Refusals.{impossible, open_rules, chunk_rules, block_call_rules}
use Rattle.meter.specs.Reports.{report_rules}
use Rattle.exact.specs.Calls.{Call, Typed}
use Rattle.exact.specs.Exact.{E, start, exactly, answers_of_e, took}
use Rattle.exact.specs.Lists.{after, answers, taken}
use Rattle.exact.specs.NoOffset.{NoOffset}
use Rattle.exact.specs.Worked.{AtFirst, Worked}

-- ---- lists of calls, from the opening on

-- the offset that a meter is opened with is a signed 16-bit number, as its type says
abbrev pub TypedOffset : Setting → Type 0
TypedOffset c = SFits w16 c.offset

-- opening accepts a setting
abbrev pub Opens : Setting → Type 0
Opens c = (open_call c).number ≡ 0

-- the meter after a list of calls, the first of which gets the meter that opening handed back; and the report on it
abbrev pub meter_after : Setting → List Call → Meter
meter_after c calls = after (open_call c).meter calls

abbrev pub report_after : Setting → List Call → HandedReport
report_after c calls = report_call (meter_after c calls)

-- which of the calls the meter accepted, and their samples in order
abbrev pub answers_to : Setting → List Call → List Bool
answers_to c calls = answers (open_call c).meter calls

abbrev pub taken_from : Setting → List Call → List ℤ
taken_from c calls = taken (open_call c).meter calls

-- E before the list: it is fed the code and the offset, and not the margin
abbrev pub exact_at : Setting → E
exact_at c = start c.code c.offset

-- E after the same list, and its count at a threshold in units
abbrev pub exact_after : Setting → List Call → E
exact_after c calls = exactly (exact_at c) calls

abbrev pub count_at : E → ℕ → ℕ
count_at e c = e.u c

-- the sum of samples, and the sum of squares of x − o over them
unfoldable pub sum : List ℤ → ℤ
sum [] = pos 0
sum (x ∷ xs) = x +ℤ sum xs

unfoldable pub sum_of_squares : (o : ℤ) → List ℤ → ℕ
sum_of_squares o [] = 0
sum_of_squares o (x ∷ xs) = nat_abs (x -ℤ o) * nat_abs (x -ℤ o) + sum_of_squares o xs

-- ---- demand 1: "No input and no order of calls may stop the meter, wrap a sum or spoil a running measurement"

-- after a list of calls n, s and sq are those of the accepted ones' samples, s of raw samples and sq of x − o, and no call is refused with 2
pub record NothingLost (c : Setting) (calls : List Call) : Type 0 where
  pub total : (meter_after c calls).state.sums.n.0 ≡ length (taken_from c calls)
  pub sums : (meter_after c calls).state.sums.s ≡ sum (taken_from c calls)
  pub squares : two_words (meter_after c calls).state.sums.sq ≡ sum_of_squares c.offset (taken_from c calls)
  pub possible : impossible (meter_after c calls) ≡ false

-- the number given to a call is that of the first of its rules that applies, which is the lowest; 0 where none applies
abbrev pub Numbered : List Rule → ℕ → Type 0
Numbered rules k = Given rules k × Lowest rules k

pub record Demand1 : Type 0 where
  -- "every call ends": the check proves of every function that it returns. `Meter::open`, `Meter::chunk`, `Meter::block`, `Meter::report`,
  -- `write` of `block`, and `hoggetwhirl_check_block` and `hoggetwhirl_write_block`, which are for C, have no `requires`: they return for every
  -- argument whatever
  -- "wrap a sum or spoil a running measurement"
  pub nothing_lost : (c : Setting) (calls : List Call) → TypedOffset c → Opens c → Typed calls → NothingLost c calls
  -- "whatever is wrong gets the refusal that document 01 numbers for it"
  pub open_number : (c : Setting) → Numbered (open_rules c) (open_call c).number
  pub chunk_number : (m : Meter) (xs : List ℤ) → Numbered (chunk_rules m xs) (chunk_call m xs).number
  pub block_number : (m : Meter) (b : List ℕ) → Numbered (block_call_rules m b) (block_call m b).number
  pub report_number : (m : Meter) → Numbered (report_rules m) (report_call m).number
  pub host_number : (b : List ℕ) (code : ℕ) → Numbered (host_rules b code) (host_check b code)
  pub write_number : (code n : ℕ) (xs : List ℤ) (buffer : List ℕ) → Numbered (write_rules code n xs buffer) (write_call code n xs buffer).number
  -- "a refused call gives back the meter it was handed", and a refused report call a report of all zeros; opening was handed no meter, and gives one of
  -- all zeros, which every later call refuses with 2
  pub chunk_refused : (m : Meter) (xs : List ℤ) → 0 < (chunk_call m xs).number → (chunk_call m xs).meter ≡ m
  pub block_refused : (m : Meter) (b : List ℕ) → 0 < (block_call m b).number → (block_call m b).meter ≡ m
  pub report_hands_back : (m : Meter) → (report_call m).meter ≡ m
  pub report_refused : (m : Meter) → 0 < (report_call m).number → AllZero (report_call m).report
  pub open_refused : (c : Setting) → 0 < (open_call c).number → Zeros (open_call c).meter
  pub zeros_chunk : (m : Meter) → Zeros m → (xs : List ℤ) → (chunk_call m xs).number ≡ 2
  pub zeros_block : (m : Meter) → Zeros m → (b : List ℕ) → (block_call m b).number ≡ 2
  pub zeros_report : (m : Meter) → Zeros m → (report_call m).number ≡ 2
  -- "writes into nothing lent": `Meter::chunk` and `Meter::block` are lent `&[i16]` and `&[u8]`, which nothing can be written through, and
  -- `hoggetwhirl_check_block` too. Of the calls that a host makes, `write`, or from C `hoggetwhirl_write_block`, which has the same outcome, alone is
  -- lent a buffer to write into: as his request L6 has it, "A refusal leaves the buffer untouched"
  pub write_refused : (code n : ℕ) (xs : List ℤ) (buffer : List ℕ) → 0 < (write_call code n xs buffer).number → (write_call code n xs buffer).buffer ≡ buffer

-- ---- demand 2: "Nothing reported may differ from method B"

-- two settings, the same calls accepted, and the same measurement after them
pub record SameMeasurement (c c' : Setting) (calls : List Call) : Type 0 where
  pub answers : answers_to c' calls ≡ answers_to c calls
  pub state : (meter_after c' calls).state ≡ (meter_after c calls).state

-- of a block b, a rate code, a number n of samples before it and samples xs: b holds these samples, the host's check of it gives 0, and any meter of
-- that code and that n which 2 does not refuse takes them
pub record ReadsBack (code n : ℕ) (xs : List ℤ) (b : List ℕ) : Type 0 where
  pub samples : samples_in b ≡ xs
  pub checked : host_check b code ≡ 0
  pub taken : (m : Meter) → m.setting.code ≡ code → m.state.sums.n.0 ≡ n → impossible m ≡ false
      → block_call m b ≡ record { number = 0; meter = after_samples m xs }

pub record Demand2 : Type 0 where
  -- "sums, envelope, counts": opening gives the fresh meter, and after a list of calls the meter is the one that METHOD.md's formulas lead to over
  -- the accepted ones' samples, in order, however they were cut into calls
  pub opened : (c : Setting) → Opens c → Fresh c (open_call c).meter
  pub measured : (c : Setting) (calls : List Call) → Opens c
      → meter_after c calls ≡ record { setting = c; state = state_after (counting_of c) c.thresholds (fresh_state c.thresholds.count (i_of c)) (taken_from c calls) }
  -- and, as his request L2 has it, "With o = 0 every measurement from a fresh meter is today's"
  pub no_offset : NoOffset
  -- and the margin, which his request L5 has "chosen at opening", is for reports alone: with one code, one offset and one list, two settings that open
  -- take the same calls and measure the same
  pub any_margin : (c c' : Setting) (calls : List Call) → TypedOffset c → Opens c → Opens c' → Typed calls → c'.code ≡ c.code → c'.offset ≡ c.offset → c'.thresholds ≡ c.thresholds
      → SameMeasurement c c' calls
  -- and of the thresholds that these counts are of, where the list is the built-in one, as his request L3 has it, "that the j-th so worked out is c_j, for
  -- each j from 0 to 14". That the code doubles them out is the contract of `Thresholds::built_in` in `thresholds`; that "no table in the library shall
  -- list them" is tested
  pub built_in : (j : ℕ) → j < built_in_count → threshold_of built_in_list j ≡ 2 ^ (j + 24)
  -- the places past them are zero
  pub built_in_past : (j : ℕ) → built_in_count ≤ j → threshold_of built_in_list j ≡ 0
  -- of which C_j, as his request L8 has it, "becomes twice lev(c_j), less 196608": document 01's 8192·j
  pub built_in_levels : (j : ℕ) → j < built_in_count → level_of_threshold (threshold_of built_in_list j) ≡ pos (8192 * j)
  -- and it loads: the usual setting of every code that names a rate opens
  pub usual_opens : (code : ℕ) → is_named code ≡ true → Opens (usual_setting code)
  -- "crossing, levels and factor": a report on any meter that 2 lets pass is the one of METHOD.md, in which, as his request L4 has it, "the highest
  -- crossing is used", by the meter's own margin, which the report carries with its mark; F is never above 0
  pub reported : (m : Meter) → impossible m ≡ false → Answered m (report_call m).number (report_call m).report
  pub factor : (m : Meter) → (report_call m).number ≡ 0 → lt_z (pos 0) (report_call m).report.levels.factor.0 ≡ false
  -- and, as L4 goes on, "Refusals 15 and 16 are unaffected, since they depend on there being none": a report on any meter that 2 lets pass, with n, sq and
  -- a_0 above 0, has levels and not one of the two exactly where there is a crossing at all
  pub unaffected : (m : Meter) → impossible m ≡ false → Active m → ((report_call m).number ≡ 0) ↔ ((j : ℕ) × CrossingAt m j)
  -- and, as his request L1 has it, "A larger F must never show a smaller percentage": of any two reports with levels
  pub percent_never_falls : (m m' : Meter) → (report_call m).number ≡ 0 → (report_call m').number ≡ 0
      → le_z (report_call m).report.levels.factor.0 (report_call m').report.levels.factor.0 ≡ true
      → (report_call m).report.percent.0 ≤ (report_call m').report.percent.0
  -- "a sample block is taken exactly when it breaks none of the rules"; taken, its samples are
  pub block_taken : (m : Meter) (b : List ℕ) → ((block_call m b).number ≡ 0) ↔ NoneApplies (block_call_rules m b)
  pub block_samples : (m : Meter) (b : List ℕ) → (block_call m b).number ≡ 0 → (block_call m b).meter ≡ after_samples m (samples_in b)
  -- and, as his request L6 has it, "A written block reads back to the same samples at any meter with that code and that n which 2 does not refuse"; the
  -- samples are signed 16-bit numbers, as their type says
  pub written : (code n : ℕ) (xs : List ℤ) (buffer : List ℕ) → AllSamples xs → (write_call code n xs buffer).number ≡ 0
      → ReadsBack code n xs (write_call code n xs buffer).buffer
  -- "and any sound block whose samples end at 2^48 or below, written afresh from its own contents, has its own bytes", into any buffer of
  -- 512 bytes; those of the block are below 256, as their type says
  pub afresh : (b buffer : List ℕ) → AllBytes b → sound b ≡ true → before b + count b ≤ most_samples → length buffer ≡ 512
      → write_call (rate_code b) (before b) (samples_in b) buffer ≡ record { number = 0; buffer = b }
  -- an accepted chunk's samples are taken; an empty one is accepted where 2 does not refuse the meter, and changes nothing
  pub chunk_samples : (m : Meter) (xs : List ℤ) → (chunk_call m xs).number ≡ 0 → (chunk_call m xs).meter ≡ after_samples m xs
  pub empty_chunk : (m : Meter) → impossible m ≡ false → chunk_call m [] ≡ record { number = 0; meter = m }

-- ---- demand 3: "For every list of chunk calls and block calls, refused ones among them, from a fresh meter at any named rate"

-- the level clauses, of a report r by thresholds t and a margin M: A is at least C of the lower threshold plus M; A plus two steps is above E's exact level
-- at the lower threshold, and A less two steps below E's at the upper threshold raised by D. As his request L8 has it, "a power of two whose exponent is
-- negative then goes to the other side"
pub record LevelBounds (t : Thresholds) (M : ℤ) (r : Report) (e : E) (D : ℕ) : Type 0 where
  pub at_least_margin : le_z (level_of_threshold (threshold_of t r.levels.lower) +ℤ M) r.levels.active.0 ≡ true
  pub plus_two : let A = r.levels.active.0 in e.sq ^ 4096 * 2 ^ below (A +ℤ pos 2) < 2 ^ above (A +ℤ pos 2) * count_at e (threshold_of t r.levels.lower) ^ 4096
  pub less_two : let A = r.levels.active.0 in 2 ^ above A * count_at e (threshold_of t r.levels.upper + D) ^ 4096 < 4 * 2 ^ below A * e.sq ^ 4096

-- a place of a meter at which nothing stands
pub record EmptyAt (m : Meter) (j : ℕ) : Type 0 where
  pub threshold : threshold_of m.setting.thresholds j ≡ 0
  pub count : activity m.state.a j ≡ 0
  pub hangover : get_or m.state.h j 0 ≡ 0

-- after a list of calls from a setting that opening accepts, with whatever offset, margin and thresholds
pub record Demand3 (c : Setting) (calls : List Call) : Type 0 where
  -- "Let E be the plain machine that document 01 writes out: P.56's envelope and counts, worked from the calls alone, without rounding, at the rate's stated
  -- coefficient": so it begins, and so the samples of the calls that it accepts, one by one, lead to what it is after them
  pub at_first : AtFirst c (exact_at c)
  pub worked : Worked (exact_at c) (took (exact_at c) calls) (exact_after c calls)
  -- "The meter accepts exactly the calls that E accepts", and so takes as many samples; E adds up the squares of x − o over those that it took, as the
  -- meter does
  pub same_calls : answers_to c calls ≡ answers_of_e (exact_at c) calls
  pub same_total : (exact_after c calls).y ≡ (meter_after c calls).state.sums.n.0
  pub exact_squares : (exact_after c calls).sq ≡ sum_of_squares c.offset (took (exact_at c) calls)
  pub same_squares : (exact_after c calls).sq ≡ two_words (meter_after c calls).state.sums.sq
  -- "Each activity count is at most E's count at that threshold, and at least E's count at the threshold raised by document 01's D"
  pub at_most : (j : ℕ) → j < c.thresholds.count → activity (meter_after c calls).state.a j ≤ count_at (exact_after c calls) (threshold_of c.thresholds j)
  pub at_least : (j : ℕ) → j < c.thresholds.count → count_at (exact_after c calls) (threshold_of c.thresholds j + d_of c) ≤ activity (meter_after c calls).state.a j
  -- "No count rises with the threshold"
  pub never_rises : (i j : ℕ) → i ≤ j → j < c.thresholds.count → activity (meter_after c calls).state.a j ≤ activity (meter_after c calls).state.a i
  -- and, as his request L8 has it, "places past its end, among thresholds, a and h, are zero"
  pub past_end : (j : ℕ) → c.thresholds.count ≤ j → j < places → EmptyAt (meter_after c calls) j
  -- "A report on that meter is document 01's report, level or refusal"
  pub report : Answered (meter_after c calls) (report_after c calls).number (report_after c calls).report
  -- "and where it gives levels", they keep to E's
  pub levels : (report_after c calls).number ≡ 0 → LevelBounds c.thresholds c.margin.0 (report_after c calls).report (exact_after c calls) (d_of c)
  -- with the built-in list no threshold's level is below 0, so A is above 0
  pub above_zero : c.thresholds ≡ built_in_list → (report_after c calls).number ≡ 0 → lt_z (pos 0) (report_after c calls).report.levels.active.0 ≡ true
