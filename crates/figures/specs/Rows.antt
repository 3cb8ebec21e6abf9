-- Rows of worked figures, and what each kind of row says.
use Rattle.std.specs.Prelude.{Some, None, Bool, true, false, List, [], ◌∷◌, ◌≡◌, ℕ, ◌+◌, ◌-◌, ◌*◌, ◌^◌, ◌≤◌, ℤ, pos}
use Rattle.level.specs.Logarithm.{level_of}
use Rattle.rate.specs.Rates.{rate_of, row_of, keeps_time}
use Rattle.block.specs.Refusals.{host_check}
use Rattle.block.specs.Written.{write_call}
use Rattle.percent.specs.Percent.{percent_of}
use Rattle.thresholds.specs.Lists.{threshold_of}
use Rattle.setting.specs.declared.Setting.{Setting}
use Rattle.meter.specs.declared.Meter.{Meter}
use Rattle.meter.specs.declared.Report.{Report}
use Rattle.meter.specs.Calls.{fresh, after_samples, open_call, chunk_call, report_call}
use Rattle.exact.specs.Calls.{Call}
use Rattle.exact.specs.Demands.{meter_after, exact_after, count_at}
use Rattle.exact.specs.Envelope.{envelope_after, exact_envelope_after}
use Rattle.exact.specs.Exact.{E}
use Rattle.exact.specs.Fractions.{AtLeast}
use Rattle.exact.specs.Lists.{called}
use Rattle.exact.specs.TwoCards.{OneLine, raised, meter_count}
use Rattle.figures.specs.Meters.{padded, numbers, counts_of}

-- what a report carries of the measurement
pub record Carried : Type 0 where
  pub n : ℕ
  pub s : ℤ
  pub high : ℕ
  pub low : ℕ
  pub a : List ℕ

-- and what it makes of it: the levels, their thresholds, the percentage, and the margin with its mark
pub record Shown : Type 0 where
  pub L : ℤ
  pub A : ℤ
  pub C : ℤ
  pub F : ℤ
  pub lower : ℕ
  pub upper : ℕ
  pub T : ℕ
  pub M : ℤ
  pub mark : Bool

-- what a refused report carries, and what it shows
abbrev pub no_measurement : Carried
no_measurement = record { n = 0; s = pos 0; high = 0; low = 0; a = padded [] }

abbrev pub nothing : Shown
nothing = record { L = pos 0; A = pos 0; C = pos 0; F = pos 0; lower = 0; upper = 0; T = 0; M = pos 0; mark = false }

-- the values of a meter; in a row its thresholds, a and h are written without the zeros in the places past them
pub record Values : Type 0 where
  pub code : ℕ
  pub offset : ℤ
  pub margin : ℤ
  pub count : ℕ
  pub c : List ℕ
  pub n : ℕ
  pub s : ℤ
  pub high : ℕ
  pub low : ℕ
  pub P : ℕ
  pub Q : ℕ
  pub a : List ℕ
  pub h : List ℕ

pub data Row : Type 0 where
  -- a code names the rate with these figures
  rate : (code hertz K I D : ℕ) → Row
  -- at f samples a second K keeps the smoothing time within 5 %
  timed : (f K : ℕ) → Row
  -- lev(N) is v
  level : (N v : ℕ) → Row
  -- N has no level
  no_level : (N : ℕ) → Row
  -- the percentage of a factor F is T
  percent : (F : ℤ) (T : ℕ) → Row
  -- a fresh meter after samples has P, Q and activity counts a, with zeros in the places past them, and its report is answered with number
  sampled : Setting → (xs : List ℤ) (P Q : ℕ) (a : List ℕ) (number : ℕ) → Row
  -- a meter handed in gets a report that carries its own measurement and shows this
  reported : Meter → Shown → Row
  -- a meter handed in is refused a report with number, and what the report carries and shows is all zero
  refused : Meter → (number : ℕ) → Row
  -- opening is answered with number
  opened : Setting → (number : ℕ) → Row
  -- a meter handed in, whole, with an empty chunk is answered with number
  handed_in : Meter → (number : ℕ) → Row
  -- calls in turn, the first on this meter, are answered with these numbers, 0 where accepted
  answered : Meter → List Call → (numbers : List ℕ) → Row
  -- the line host hands over bytes and a code, and is answered with number
  checked : (bytes : List ℕ) (code number : ℕ) → Row
  -- making a block of a code, a number before and samples is answered with number, and leaves the lent buffer as after says
  made : (code before : ℕ) (xs : List ℤ) (buffer : List ℕ) (number : ℕ) (after : List ℕ) → Row
  -- after an opening and calls the meter has these values
  played : Setting → List Call → Values → Row
  -- after an opening and calls E's count at threshold c is u
  counted : Setting → List Call → (c u : ℕ) → Row
  -- calls after an opening, after which A is reported and one step more than A does not exceed E's exact level at the lower threshold
  needs_two : Setting → List Call → (A : ℕ) → Row
  -- two cards on one line, at most d apart in size, c and calls being the first's: the second's c_j raised is t, E's count for the first card there is u, and
  -- the second meter's count at c_j is a
  cards : (d : ℕ) (c c' : Setting) (calls calls' : List Call) (j t u a : ℕ) → Row
  -- samples from a fresh start, after which the envelope is Q, and E's q is not below Q + (D − 1)
  needs_d : Setting → (xs : List ℤ) (Q : ℕ) → Row

unfoldable pub sampled_meter : Setting → List ℤ → Meter
sampled_meter c xs = after_samples (fresh c) xs

-- the meter, and E, after an opening and calls
unfoldable pub meter_from : Setting → List Call → Meter
meter_from c calls = meter_after c calls

unfoldable pub exact_from : Setting → List Call → E
exact_from c calls = exact_after c calls

-- the numbers of calls in turn: each is given what the one before handed back
unfoldable pub numbers_of : Meter → List Call → List ℕ
numbers_of m [] = []
numbers_of m (call ∷ calls) = let got = called m call in got.number ∷ numbers_of got.meter calls

unfoldable pub carried_by : Report → Carried
carried_by r = record { n = r.n.0; s = r.s; high = r.sq.high; low = r.sq.low; a = numbers r.a }

unfoldable pub measurement_of : Meter → Carried
measurement_of m =
    let sums = m.state.sums in
    record { n = sums.n.0; s = sums.s; high = sums.sq.high; low = sums.sq.low; a = counts_of m }

unfoldable pub shown_by : Report → Shown
shown_by r =
    record {
      L = r.levels.level.0;
      A = r.levels.active.0;
      C = r.levels.threshold.0;
      F = r.levels.factor.0;
      lower = r.levels.lower;
      upper = r.levels.upper;
      T = r.percent.0;
      M = r.margin.0;
      mark = r.mark;
    }

unfoldable pub values_of : Meter → Values
values_of m =
    record {
      code = m.setting.code;
      offset = m.setting.offset;
      margin = m.setting.margin.0;
      count = m.setting.thresholds.count;
      c = m.setting.thresholds.at;
      n = m.state.sums.n.0;
      s = m.state.sums.s;
      high = m.state.sums.sq.high;
      low = m.state.sums.sq.low;
      P = m.state.sums.p;
      Q = m.state.sums.q;
      a = counts_of m;
      h = m.state.h;
    }

-- with those zeros
unfoldable pub in_places : Values → Values
in_places v =
    record {
      code = v.code;
      offset = v.offset;
      margin = v.margin;
      count = v.count;
      c = padded v.c;
      n = v.n;
      s = v.s;
      high = v.high;
      low = v.low;
      P = v.P;
      Q = v.Q;
      a = padded v.a;
      h = padded v.h;
    }

unfoldable pub Holds : Row → Type 0
Holds (rate code hertz K I D) = rate_of code ≡ Some (record { code = code; hertz = hertz; k = K; i = I; d = D })
Holds (timed f K) = keeps_time f K ≡ true
Holds (level N v) = level_of N ≡ Some (pos v)
Holds (no_level N) = level_of N ≡ None
Holds (percent F T) = percent_of F ≡ T
Holds (sampled c xs P Q a number) =
    let m = sampled_meter c xs in
    (m.state.sums.p ≡ P) × (m.state.sums.q ≡ Q) × (counts_of m ≡ padded a) × ((report_call m).number ≡ number)
Holds (reported m r) =
    let got = report_call m in
    (got.number ≡ 0) × (carried_by got.report ≡ measurement_of m) × (shown_by got.report ≡ r)
Holds (refused m number) =
    let got = report_call m in
    (got.number ≡ number) × (carried_by got.report ≡ no_measurement) × (shown_by got.report ≡ nothing)
Holds (opened c number) = (open_call c).number ≡ number
Holds (handed_in m number) = (chunk_call m []).number ≡ number
Holds (answered m calls numbers) = numbers_of m calls ≡ numbers
Holds (checked bytes code number) = host_check bytes code ≡ number
Holds (made code before xs buffer number after) =
    let w = write_call code before xs buffer in
    (w.number ≡ number) × (w.buffer ≡ after)
Holds (played c calls v) = values_of (meter_from c calls) ≡ in_places v
Holds (counted s calls c u) = count_at (exact_from s calls) c ≡ u
Holds (needs_two c calls A) =
    let r = (report_call (meter_from c calls)).report in
    let e = exact_from c calls in
    (r.levels.active.0 ≡ pos A) × (2 ^ (A + 1) * count_at e (threshold_of c.thresholds r.levels.lower) ^ 4096 ≤ e.sq ^ 4096)
Holds (cards d c c' calls calls' j t u a) =
    OneLine d c c' calls calls' × (raised d c' j ≡ t) × (count_at (exact_from c calls) t ≡ u) × (meter_count c' calls' j ≡ a)
Holds (needs_d c xs Q) =
    let r = row_of c.code in
    let o = c.offset in
    (envelope_after c.thresholds r.k r.i o xs ≡ Q) × AtLeast (exact_envelope_after r.k r.i o xs) (Q + (r.d - 1))

-- every row of a table holds
unfoldable pub All : List Row → Type 0
All [] = Unit {0}
All (r ∷ rows) = Holds r × All rows
