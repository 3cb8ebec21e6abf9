-- Two cards on one line: `two_cards`. E orders the counts of its two runs at thresholds that are d intervals apart, and so do the meters; demand 3 puts
-- each meter's count between E's at the threshold and at the one raised by D.
use mathlib.Core.List.{List}
use mathlib.Core.Path.{◌≡◌, sym, ap, ap₂, subst, subst₂, ◌∙◌}
use Prim.Native.Nat.{ℕ, ◌+◌, ◌*◌, ◌^◌, ◌≤◌, ◌<◌}
use native.Mathlib.Nat.{le_trans, mul-le-mul_right, two-pow-succ}
use native.Mathlib.Numerals.{add-one}
use native.Mathlib.Omega.{arith}
use lib.IntN.{ℤ}
use lib.Pow.{pow-add}
use mir.Syntax.{w16}
use mir.Val.{SFits}
use Rattle.rate.specs.Rates.{Keeps, row_of}
use Rattle.rate.proofs.Laws.{row_keeps}
use Rattle.setting.specs.declared.Setting.{Setting}
use Rattle.setting.specs.Settings.{d_of}
use Rattle.thresholds.specs.declared.Thresholds.{Thresholds}
use Rattle.thresholds.specs.Lists.{built_in_list, built_in_count, threshold_of}
use Rattle.thresholds.specs.Rising.{Rising}
use Rattle.thresholds.proofs.Laws.{built_in_is, built_in_count_lem, loaded, rising}
use Rattle.sample.specs.Envelope.{interval}
use Rattle.exact.specs.Calls.{Call, Typed}
use Rattle.exact.specs.Demands.{TypedOffset, Opens, meter_after, exact_at, exact_after, taken_from, count_at, Demand3}
use Rattle.exact.specs.Exact.{E, start, take_all}
use Rattle.exact.specs.TwoCards.{Alike, OneLine, raised, meter_count, Compared, TwoCards}
use Rattle.exact.proofs.Ahead.{ahead, Leads, leads}
use Rattle.exact.proofs.Calls.{accepted_setting}
use Rattle.exact.proofs.Demand3.{taken_alike, demand3}
use Rattle.exact.proofs.Lost.{exactly_is, measurement, state_is}

-- ---- figures

row : (c : Setting) → Opens c → Keeps (row_of c.code)
row c z = row_keeps c.code (accepted_setting c z).named

-- ---- the counts

-- E after calls is what the samples taken lead to
exact_is : (c : Setting) (calls : List Call) → TypedOffset c → Opens c → Typed calls → exact_after c calls ≡ take_all (exact_at c) (taken_from c calls)
exact_is c calls t z f = exactly_is calls (exact_at c) ∙ ap (take_all (exact_at c)) (sym (taken_alike c calls t z f))

list_of : (c : Setting) → Opens c → Rising c.thresholds
list_of c z = rising _ (loaded _ (accepted_setting c z).list)

module _ (d : ℕ) (c c' : Setting) (calls calls' : List Call) (t : TypedOffset c) (f : Typed calls) (f' : Typed calls') (l : OneLine d c c' calls calls') where
  t' : TypedOffset c'
  t' = subst (SFits w16) (sym l.offset) t

  first : Demand3 c calls
  first = demand3 c calls t l.opens f

  second : Demand3 c' calls'
  second = demand3 c' calls' t' l.opens' f'

  same_d : d_of c' ≡ d_of c
  unfolding d_of
  same_d = ap (λ (k : ℕ). (row_of k).d) l.rate

  same_start : exact_at c' ≡ exact_at c
  same_start = ap₂ start l.rate l.offset

  exact_order : (r r' : ℕ) → r' + d * interval ≤ r → count_at (exact_after c calls) r ≤ count_at (exact_after c' calls') r'
  unfolding start
  exact_order r r' k =
      subst₂ (λ (e e' : E). count_at e r ≤ count_at e' r')
      (sym (exact_is c calls t l.opens f))
      (sym (exact_is c' calls' t' l.opens' f' ∙ ap (λ (e : E). take_all e (taken_from c' calls')) same_start))
      (ahead d c.code (row_of c.code).k (row_of c.code).i c.offset (row c l.opens).k_high (taken_from c calls) (taken_from c' calls') l.samples r r' k)

  -- and of the meters themselves
  meters : Leads c.thresholds c'.thresholds (d * interval) (meter_after c calls).state (meter_after c' calls').state
  unfolding measurement
  meters =
      let r = row_of c.code in
      subst₂ (Leads c.thresholds c'.thresholds (d * interval))
      (sym (state_is c calls l.opens))
      (sym (state_is c' calls' l.opens' ∙ ap₂ (λ (k : ℕ) (o : ℤ). measurement c'.thresholds k o (taken_from c' calls')) l.rate l.offset))
      (leads c.thresholds c'.thresholds (list_of c l.opens) (list_of c' l.opens') d (record { k = r.k; i = r.i; offset = c.offset }) (row c l.opens).k_high (taken_from c calls) (taken_from c' calls') l.samples)

  alone : (i j : ℕ) → i < c.thresholds.count → j < c'.thresholds.count → threshold_of c'.thresholds j + d * interval ≤ threshold_of c.thresholds i
      → meter_count c calls i ≤ meter_count c' calls' j
  alone i j k n h = (meters.each i j k n h).count

  -- the second meter's count against E's for the first
  from_exact : (r j : ℕ) → j < c'.thresholds.count → threshold_of c'.thresholds j + d_of c' + d * interval ≤ r → count_at (exact_after c calls) r ≤ meter_count c' calls' j
  from_exact r j k h = le_trans (exact_order r (threshold_of c'.thresholds j + d_of c') h) (second.at_least j k)

  -- each clause with its own bound on thresholds to be shown, so that a wrong one is refused for what is false in it
  compared : Compared d c c' calls calls'
  compared =
      record {
        never_above = λ j k. from_exact _ j k (omega arith);
        exceeds_at_most = λ i j k n. omega (arith, first.at_most i k, from_exact (raised d c' j) j n (omega arith));
        meters_alone = λ i j k n h. alone i j k n h;
      }

-- ---- exchanged

alike_exchanged : {d : ℕ} {o : ℤ} {xs xs' : List ℤ} → Alike d o xs xs' → Alike d o xs' xs
alike_exchanged s =
    record {
      equally_many = sym s.equally_many;
      sizes = λ i l. let w = s.sizes i (omega (arith, s.equally_many)) in (w.1, w.0);
    }

exchange : (d : ℕ) (c c' : Setting) (calls calls' : List Call) → OneLine d c c' calls calls' → OneLine d c' c calls' calls
exchange d c c' calls calls' l =
    record {
      opens = l.opens';
      opens' = l.opens;
      rate = sym l.rate;
      offset = sym l.offset;
      samples = subst (λ (o : ℤ). Alike d o (taken_from c' calls') (taken_from c calls)) (sym l.offset)
          (alike_exchanged l.samples);
    }

pub two_cards : (d : ℕ) (c c' : Setting) (calls calls' : List Call) → TypedOffset c → Typed calls → Typed calls' → OneLine d c c' calls calls'
    → TwoCards d c c' calls calls'
two_cards d c c' calls calls' t f f' l =
    record {
      first = compared d c c' calls calls' t f f' l;
      exchanged = compared d c' c calls' calls (subst (SFits w16) (sym l.offset) t) f' f (exchange d c c' calls calls' l);
    }

-- ---- what follows from it

-- c_j of the built-in list is 2^j intervals
in_intervals : (j : ℕ) → j < built_in_count → threshold_of built_in_list j ≡ 2 ^ j * interval
in_intervals j l = built_in_is j l ∙ pow-add 2 j 24

-- so with that list in both, and d at most 2^j, the first's count at the next threshold is not above the second's at c_j
pub next_threshold : {d : ℕ} {c c' : Setting} {calls calls' : List Call} → TwoCards d c c' calls calls' → c.thresholds ≡ built_in_list → c'.thresholds ≡ built_in_list → (j : ℕ) → j + 1 < built_in_count
    → d ≤ 2 ^ j → meter_count c calls (j + 1) ≤ meter_count c' calls' j
next_threshold t b b' j k h =
    let n = ap (λ (T : Thresholds). T.count) b in
    let n' = ap (λ (T : Thresholds). T.count) b' in
    let high = ap (λ (T : Thresholds). threshold_of T (j + 1)) b ∙ in_intervals (j + 1) k in
    let low = ap (λ (T : Thresholds). threshold_of T j) b' ∙ in_intervals j (omega arith) in
    t.first.meters_alone (j + 1) j (omega (arith, k, n, built_in_count_lem)) (omega (arith, k, n', built_in_count_lem))
    (omega (arith, high, low, mul-le-mul_right interval h, ap (λ (e : ℕ). 2 ^ e * interval) (add-one j), ap (λ (x : ℕ). x * interval) (two-pow-succ j)))
