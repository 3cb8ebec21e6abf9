-- Two lists of samples, at any K, I and offset, where the first's sizes are at most d intervals above the second's. One step of smoothing keeps a value at
-- most X above another where what they are fed is so: for p, and then for q. That holds without rounding, over one denominator, and with floors, since X
-- is whole. So the first is at a threshold only where the second is at any that is lower by X, and the law about two counters does the rest: for E, and
-- for the meter.
use mathlib.Core.Bool.{true}
use mathlib.Core.List.{List, [], ◌∷◌}
use mathlib.Core.Path.{◌≡◌, ap, subst, ◌∙◌}
use Prim.Native.Nat.{ℕ, suc, ◌+◌, ◌*◌, ◌-◌, ◌/◌, ◌^◌, ◌≤◌, ◌<◌, zero-le}
use native.Mathlib.Nat.{div-mul-le_self, lt-div-mul-add, lt_of_mul-lt-mul_right, mul-le-mul_right, sub-add_cancel}
use native.Mathlib.Omega.{arith}
use borrow.Author.Tests.{leb-true, le-leb}
use lib.Dec.{leb, lit<}
use lib.IntN.{ℤ}
use lib.ListN.{get_or}
use Rattle.level.specs.Types.{activity}
use Rattle.thresholds.specs.declared.Thresholds.{Thresholds}
use Rattle.thresholds.specs.Lists.{threshold_of}
use Rattle.thresholds.specs.Rising.{Rising}
use Rattle.sample.specs.declared.Counting.{Counting}
use Rattle.sample.specs.declared.State.{State}
use Rattle.sample.specs.Activity.{counted, hung}
use Rattle.sample.specs.Envelope.{interval, smooth, size, rectified}
use Rattle.sample.specs.Sample.{fresh_state, summed, counts, hangovers, state_after_one, state_after}
use Rattle.sample.proofs.Activity.{Under, under_refl, under_step}
use Rattle.exact.specs.Exact.{E, start_at, distance, reaches, count_next, hangover_next, take_one, take_all}
use Rattle.exact.specs.TwoCards.{Alike}
use Rattle.exact.proofs.Powers.{power_next}
use Rattle.exact.proofs.Tied.{fresh_under, count_of, hang_of, both_at}

-- ---- one step

-- G is written R + K, so that nothing is subtracted
smoothed : (R K X W n n' z z' : ℕ) → n ≤ n' + X * W → z ≤ z' + X * W → n * R + z * K ≤ n' * R + z' * K + X * (W * (R + K))
smoothed R K X W n n' z z' h k =
    let a = mul-le-mul_right R h in
    let b = mul-le-mul_right K k in
    omega arith

smoothed_at : (K X i n n' z z' : ℕ) → K ≤ 2 ^ 20 → n ≤ n' + X * (2 ^ 20) ^ i → z ≤ z' + X * (2 ^ 20) ^ i
    → n * (2 ^ 20 - K) + z * K ≤ n' * (2 ^ 20 - K) + z' * K + X * (2 ^ 20) ^ (i + 1)
smoothed_at K X i n n' z z' kG h k =
    subst (λ (w : ℕ). n * (2 ^ 20 - K) + z * K ≤ n' * (2 ^ 20 - K) + z' * K + X * w)
    (ap (λ (g : ℕ). (2 ^ 20) ^ i * g) (sub-add_cancel kG) ∙ power_next i)
    (smoothed (2 ^ 20 - K) K X ((2 ^ 20) ^ i) n n' z z' h k)

-- what p is fed, of sizes s and s'
fed_sizes : (d W s s' : ℕ) → s ≤ s' + d → s * interval * W ≤ s' * interval * W + d * interval * W
fed_sizes d W s s' h = let a = mul-le-mul_right (interval * W) h in omega arith

-- n/W reaches t only where n'/W reaches t'
reached : (X W n n' t t' : ℕ) → n ≤ n' + X * W → t' + X ≤ t → t * W ≤ n → t' * W ≤ n'
reached X W n n' t t' h l r = let a = mul-le-mul_right W l in omega arith

on_second : (X y n n' t t' : ℕ) → n ≤ n' + X * (2 ^ 20) ^ (y + 1) → t' + X ≤ t → reaches y n t ≡ true → reaches y n' t' ≡ true
unfolding reaches
on_second X y n n' t t' h l r = le-leb _ _ (reached X ((2 ^ 20) ^ (y + 1)) n n' t t' h l (leb-true _ _ r))

-- ---- pairs of samples

-- all but the first of each
alike_rest : {d : ℕ} {o : ℤ} {x x' : ℤ} {xs xs' : List ℤ} → Alike d o (x ∷ xs) (x' ∷ xs') → Alike d o xs xs'
alike_rest s = record { equally_many = omega (arith, s.equally_many); sizes = λ i l. s.sizes (suc i) (omega arith) }

-- what holds of no samples, and of a pair of samples more wherever it holds of the rest, holds of all that are alike
along : {d : ℕ} {o : ℤ} (C : List ℤ → List ℤ → Type 0) → C [] []
    → ((x x' : ℤ) (xs xs' : List ℤ) → distance o x ≤ distance o x' + d → C xs xs' → C (x ∷ xs) (x' ∷ xs'))
    → (xs xs' : List ℤ) → Alike d o xs xs' → C xs xs'
along C none pair [] [] s = none
along C none pair [] (x' ∷ xs') s = absurd (omega (arith, s.equally_many))
along C none pair (x ∷ xs) [] s = absurd (omega (arith, s.equally_many))
along C none pair (x ∷ xs) (x' ∷ xs') s =
    pair x x' xs xs' (omega (arith, (s.sizes 0 (omega arith)).0)) (along C none pair xs xs' (alike_rest s))

-- ---- E

-- what samples change in E beside y
record Moving : Type 0 where
  pn : ℕ
  qn : ℕ
  u : ℕ → ℕ
  v : ℕ → ℕ
  sq : ℕ

abbrev moving : E → Moving
moving e = record { pn = e.pn; qn = e.qn; u = e.u; v = e.v; sq = e.sq }

-- the first's p and q are at most X above the second's, and its counter at t is under the second's at any t' that is lower by X
record Ahead (X y : ℕ) (m m' : Moving) : Type 0 where
  p : m.pn ≤ m'.pn + X * (2 ^ 20) ^ y
  q : m.qn ≤ m'.qn + X * (2 ^ 20) ^ (y + 1)
  each : (t t' : ℕ) → t' + X ≤ t → Under (m.u t) (m.v t) (m'.u t') (m'.v t')

module _ (d code K I : ℕ) (o : ℤ) (kG : K ≤ 2 ^ 20) where
  abbrev at : ℕ → Moving → E
  at y m = record { code = code; K = K; I = I; o = o; y = y; pn = m.pn; qn = m.qn; u = m.u; v = m.v; sq = m.sq }

  ahead_step : (y : ℕ) (m m' : Moving) (x x' : ℤ) → distance o x ≤ distance o x' + d → Ahead (d * interval) y m m'
      → Ahead (d * interval) (y + 1) (moving (take_one (at y m) x)) (moving (take_one (at y m') x'))
  unfolding take_one count_next hangover_next counted hung
  ahead_step y m m' x x' h a =
      let X = d * interval in
      let W = (2 ^ 20) ^ y in
      let p = smoothed_at K X y m.pn m'.pn (distance o x * interval * W) (distance o x' * interval * W) kG a.p (fed_sizes d W (distance o x) (distance o x') h) in
      let q = smoothed_at K X (y + 1) m.qn m'.qn _ _ kG a.q p in
      record {
        p = p;
        q = q;
        each = λ t t' l. under_step I _ _ _ _ _ _ (on_second X (y + 1) _ _ t t' q l) (a.each t t' l);
      }

  -- from the start: E counts at t at most what it counts over the other samples at any threshold lower by d intervals
  pub ahead : (xs xs' : List ℤ) → Alike d o xs xs' → (t t' : ℕ) → t' + d * interval ≤ t
      → (take_all (start_at code K I o) xs).u t ≤ (take_all (start_at code K I o) xs').u t'
  unfolding start_at take_all take_one
  ahead xs xs' s t t' l =
      let fresh : Moving = record { pn = 0; qn = 0; u = λ c. 0; v = λ c. I; sq = 0 } in
      along (λ ys ys'. (y : ℕ) (m m' : Moving) → Ahead (d * interval) y m m' → (take_all (at y m) ys).u t ≤ (take_all (at y m') ys').u t')
      (λ y m m' a. (a.each t t' l).count)
      (λ x x' ys ys' h rest y m m' a. rest (y + 1) _ _ (ahead_step y m m' x x' h a))
      xs xs' s 0 fresh fresh
      (record { p = zero-le; q = zero-le; each = λ r r' k. under_refl 0 I })

-- ---- the meter

-- where one number is at most X above another, X whole, so is its floor
floors : (G X n n' : ℕ) → 0 < G → n ≤ n' + X * G → n / G ≤ n' / G + X
floors G X n n' g h =
    let low = div-mul-le_self n G in
    let high : n' < n' / G * G + G = lt-div-mul-add g in
    let s : n / G < n' / G + X + 1 = lt_of_mul-lt-mul_right G (omega arith) in
    omega arith

smooth_ahead : (K X v v' x x' : ℕ) → K ≤ 2 ^ 20 → v ≤ v' + X → x ≤ x' + X → smooth K v x ≤ smooth K v' x' + X
unfolding smooth
smooth_ahead K X v v' x x' kG h k =
    let R = 2 ^ 20 - K in
    floors (2 ^ 20) X (v * R + x * K) (v' * R + x' * K) (lit< tt)
    (subst (λ (g : ℕ). v * R + x * K ≤ v' * R + x' * K + X * g) (sub-add_cancel kG) (omega (arith, smoothed R K X 1 v v' x x' (omega arith) (omega arith))))

-- the same of two measurements, each at its own thresholds
pub record Leads (T T' : Thresholds) (X : ℕ) (m m' : State) : Type 0 where
  pub p : m.sums.p ≤ m'.sums.p + X
  pub q : m.sums.q ≤ m'.sums.q + X
  pub each : (i j : ℕ) → i < T.count → j < T'.count → threshold_of T' j + X ≤ threshold_of T i
      → Under (activity m.a i) (get_or m.h i 0) (activity m'.a j) (get_or m'.h j 0)

module _ (T T' : Thresholds) (R : Rising T) (R' : Rising T') (d : ℕ) (by : Counting) (kG : by.k ≤ 2 ^ 20) where
  -- the envelope after a sample
  Q : State → ℤ → ℕ
  Q m x = smooth by.k m.sums.q (smooth by.k m.sums.p (rectified by.offset x))

  leads_step : (m m' : State) (x x' : ℤ) → distance by.offset x ≤ distance by.offset x' + d → Leads T T' (d * interval) m m'
      → Leads T T' (d * interval) (state_after_one by T m x) (state_after_one by T' m' x')
  unfolding state_after_one summed counts hangovers rectified size distance count_of hang_of Q
  leads_step m m' x x' h a =
      let X = d * interval in
      let o = by.offset in
      let P = smooth_ahead by.k X m.sums.p m'.sums.p (rectified o x) (rectified o x') kG a.p (omega arith) in
      let q : Q m x ≤ Q m' x' + X = smooth_ahead by.k X m.sums.q m'.sums.q _ _ kG a.q P in
      record {
        p = P;
        q = q;
        each = λ i j k l t. both_at T.count T'.count (count_of T by.i (Q m x) m) (hang_of T by.i (Q m x) m) (count_of T' by.i (Q m' x') m') (hang_of T' by.i (Q m' x') m') i j R.few R'.few k l
            (under_step by.i _ _ _ _ (leb (threshold_of T i) (Q m x)) (leb (threshold_of T' j) (Q m' x')) (λ r. le-leb (threshold_of T' j) (Q m' x') (omega (arith, leb-true (threshold_of T i) (Q m x) r, q, t))) (a.each i j k l t));
      }

  pub leads : (xs xs' : List ℤ) → Alike d by.offset xs xs' → Leads T T' (d * interval) (state_after by T (fresh_state T.count by.i) xs) (state_after by T' (fresh_state T'.count by.i) xs')
  unfolding fresh_state state_after
  leads xs xs' s =
      along (λ ys ys'. (m m' : State) → Leads T T' (d * interval) m m' → Leads T T' (d * interval) (state_after by T m ys) (state_after by T' m' ys'))
      (λ m m' a. a)
      (λ x x' ys ys' h rest m m' a. rest _ _ (leads_step m m' x x' h a))
      xs xs' s (fresh_state T.count by.i) (fresh_state T'.count by.i)
      (record {
        p = zero-le;
        q = zero-le;
        each = λ i j k l t. fresh_under T T' R R' by.i i j k l;
      })
