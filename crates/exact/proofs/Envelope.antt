-- The meter's envelope against E's: `envelope_bound_lem`. The rounded step against the exact one, at any K from 1 to G. A value v is within m·G/K below n/W; an
-- input within l·G/K below its exact one
-- keeps what is within (l + 1)·G/K there. So P stays within G/K of p, and Q within 2·G/K of q: one law twice. G is written R + K, and the floor's
-- result is a variable, so that nothing is subtracted or divided.
use mathlib.Core.List.{List, [], ◌∷◌}
use mathlib.Core.Path.{◌≡◌, refl, sym, ◌∙◌, subst}
use Prim.Native.Nat.{ℕ, suc, ◌+◌, ◌*◌, ◌-◌, ◌/◌, ◌^◌, ◌≤◌, ◌<◌}
use native.Mathlib.Nat.{div-mul-le_self, lt-div-mul-add, mul-le-mul_right, mul-lt-mul_of_pos_right, lt_of_mul-lt-mul_right, mul-pos, sub-add_cancel, le_refl, le_of_lt, le_trans, lt_of_le_of_lt}
use native.Mathlib.Omega.{arith}
use lib.Dec.{lit<}
use lib.IntN.{ℤ}
use Rattle.rate.specs.Rates.{Ceiling}
use Rattle.thresholds.specs.declared.Thresholds.{Thresholds}
use Rattle.sample.specs.declared.State.{State}
use Rattle.sample.specs.Envelope.{smooth, size, rectified}
use Rattle.sample.specs.Sample.{fresh_state, summed, state_after_one, state_after}
use Rattle.exact.specs.Envelope.{EnvelopeBound}
use Rattle.exact.specs.Exact.{E, start_at, distance, take_one, take_all}
use Rattle.exact.proofs.Powers.{power_pos, power_next}

-- v is at most n/W, and less than m·G/K below it
pub record Near (G K m W v n : ℕ) : Type 0 where
  pub low : v * W ≤ n
  pub high : n * K < v * W * K + m * (G * W)

-- x is at most z/W, and at most l·G/K below it
pub record Input (G K l W x z : ℕ) : Type 0 where
  pub low : x * W ≤ z
  pub high : z * K ≤ x * W * K + l * (G * W)

step_low : (R K W v n x z f : ℕ) → v * W ≤ n → x * W ≤ z → f * (R + K) ≤ v * R + x * K → f * (W * (R + K)) ≤ n * R + z * K
step_low R K W v n x z f h k q =
    let q' = mul-le-mul_right W q in
    let a = mul-le-mul_right R h in
    let b = mul-le-mul_right K k in
    omega arith

step_high : (R K l W v n x z f : ℕ) → 0 < K → 0 < W
    → n * K < v * W * K + suc l * ((R + K) * W) → z * K ≤ x * W * K + l * ((R + K) * W)
    → v * R + x * K < f * (R + K) + (R + K)
    → (n * R + z * K) * K < f * (W * (R + K)) * K + suc l * ((R + K) * (W * (R + K)))
step_high R K l W v n x z f k0 w0 h k q =
    let q' = mul-lt-mul_of_pos_right q (mul-pos w0 k0) in
    let a = mul-le-mul_right R h in
    let b = mul-le-mul_right K k in
    omega arith

step_near : (G K R l W v n x z : ℕ) → R + K ≡ G → 0 < K → 0 < W → Near G K (suc l) W v n → Input G K l W x z
    → Near G K (suc l) (W * G) ((v * R + x * K) / G) (n * R + z * K)
step_near G K R l W v n x z e k0 w0 =
    subst (λ (H : ℕ). Near H K (suc l) W v n → Input H K l W x z → Near H K (suc l) (W * H) ((v * R + x * K) / H) (n * R + z * K)) e
    (λ h k. record {
      low = step_low R K W v n x z ((v * R + x * K) / (R + K)) h.low k.low (div-mul-le_self (v * R + x * K) (R + K));
      high = step_high R K l W v n x z ((v * R + x * K) / (R + K)) k0 w0 h.high k.high (lt-div-mul-add (positive R K k0));
    })
  where
    positive : (R K : ℕ) → 0 < K → 0 < R + K
    positive R K h = omega arith

-- one step of smoothing
pub near_step : (K l W v n x z : ℕ) → 0 < K → K ≤ 2 ^ 20 → 0 < W → Near (2 ^ 20) K (suc l) W v n → Input (2 ^ 20) K l W x z
    → Near (2 ^ 20) K (suc l) (W * 2 ^ 20) (smooth K v x) (n * (2 ^ 20 - K) + z * K)
unfolding smooth
near_step K l W v n x z k0 kG w0 h k = step_near (2 ^ 20) K (2 ^ 20 - K) l W v n x z (sub-add_cancel kG) k0 w0 h k

-- an input that is exact, and one that is near
pub fed_exact : (G K W x : ℕ) → Input G K 0 W x (x * W)
fed_exact G K W x = record { low = le_refl (x * W); high = omega arith }

pub fed_near : {G K m W v n : ℕ} → Near G K m W v n → Input G K m W v n
fed_near h = record { low = h.low; high = le_of_lt h.high }

pub near_zero : (G K m W : ℕ) → 0 < G → 0 < W → 0 < m → Near G K m W 0 0
near_zero G K m W g w m0 = record { low = omega arith; high = omega (arith, mul-pos m0 (mul-pos g w)) }

-- where D is not below m·G/K, n/W is less than D above v
pub near_below : (G K m W v n D : ℕ) → m * G ≤ D * K → Near G K m W v n → n < (v + D) * W
near_below G K m W v n D d h = lt_of_mul-lt-mul_right K (omega (arith, h.high, mul-le-mul_right W d))

-- what v ≥ c and n/W ≥ c say of each other
pub then_exact : {G K m W v n : ℕ} (c : ℕ) → Near G K m W v n → c ≤ v → c * W ≤ n
then_exact {G} {K} {m} {W} {v} {n} c h l = le_trans (mul-le-mul_right W l) h.low

pub then_rounded : (G K m W v n D c : ℕ) → m * G ≤ D * K → Near G K m W v n → (c + D) * W ≤ n → c ≤ v
then_rounded G K m W v n D c d h l =
    let s : c + D < v + D = lt_of_mul-lt-mul_right W (lt_of_le_of_lt l (near_below G K m W v n D d h)) in
    omega arith

-- ---- P and Q against E's p and q, over any samples

pub record Follows (P Q : ℕ) (e : E) : Type 0 where
  pub p : Near (2 ^ 20) e.K 1 ((2 ^ 20) ^ e.y) P e.pn
  pub q : Near (2 ^ 20) e.K 2 ((2 ^ 20) ^ (e.y + 1)) Q e.qn

pub follows_one : (P Q : ℕ) (e : E) (x : ℤ) → 0 < e.K → e.K ≤ 2 ^ 20 → Follows P Q e
    → let P' = smooth e.K P (rectified e.o x) in Follows P' (smooth e.K Q P') (take_one e x)
unfolding take_one rectified size distance
follows_one P Q e x k0 kG f = record { p = p_near; q = q_near }
  where
    P' : ℕ
    P' = smooth e.K P (rectified e.o x)

    p_near : Near (2 ^ 20) e.K 1 ((2 ^ 20) ^ (e.y + 1)) P' (take_one e x).pn
    p_near =
        let W = (2 ^ 20) ^ e.y in
        let X = size e.o x * 2 ^ 24 in
        subst (λ (w : ℕ). Near (2 ^ 20) e.K 1 w P' (take_one e x).pn) (power_next e.y)
        (near_step e.K 0 W P e.pn X (X * W) k0 kG (power_pos e.y) f.p (fed_exact (2 ^ 20) e.K W X))

    q_near : Near (2 ^ 20) e.K 2 ((2 ^ 20) ^ (e.y + 1 + 1)) (smooth e.K Q P') (take_one e x).qn
    q_near =
        subst (λ (w : ℕ). Near (2 ^ 20) e.K 2 w (smooth e.K Q P') (take_one e x).qn) (power_next (e.y + 1))
        (near_step e.K 1 ((2 ^ 20) ^ (e.y + 1)) Q e.qn P' (take_one e x).pn k0 kG (power_pos (e.y + 1)) f.q (fed_near p_near))

pub follows_first : (code K I : ℕ) (o : ℤ) → Follows 0 0 (start_at code K I o)
unfolding start_at
follows_first code K I o =
    record {
      p = near_zero (2 ^ 20) K 1 ((2 ^ 20) ^ 0) (lit< tt) (power_pos 0) (lit< tt);
      q = near_zero (2 ^ 20) K 2 ((2 ^ 20) ^ (0 + 1)) (lit< tt) (power_pos 1) (lit< tt);
    }

follows : (T : Thresholds) (xs : List ℤ) (m : State) (e : E) → 0 < e.K → e.K ≤ 2 ^ 20 → Follows m.sums.p m.sums.q e
    → let m' = state_after (record { k = e.K; i = e.I; offset = e.o }) T m xs in Follows m'.sums.p m'.sums.q (take_all e xs)
unfolding state_after state_after_one summed take_all take_one
follows T [] m e k0 kG f = f
follows T (x ∷ xs) m e k0 kG f = follows T xs (state_after_one (record { k = e.K; i = e.I; offset = e.o }) T m x) (take_one e x) k0 kG (follows_one m.sums.p m.sums.q e x k0 kG f)

-- what every single sample leaves alone in E, samples in order leave alone too: its K for one
pub kept : {A : Type 0} (f : E → A) → ((e : E) (x : ℤ) → f (take_one e x) ≡ f e) → (xs : List ℤ) (e : E) → f (take_all e xs) ≡ f e
unfolding take_all
kept f same [] e = refl
kept f same (x ∷ xs) e = kept f same xs (take_one e x) ∙ same e x

pub same_k : (xs : List ℤ) (e : E) → (take_all e xs).K ≡ e.K
unfolding take_one
same_k = kept (λ e. e.K) (λ e x. refl)

pub envelope_bound_lem : (t : Thresholds) (K I D : ℕ) (o : ℤ) (xs : List ℤ) → 1 ≤ K → K ≤ 2 ^ 20 → Ceiling (2 ^ 21) K D → EnvelopeBound t K I D o xs
unfolding start_at fresh_state
envelope_bound_lem t K I D o xs k0 kG d =
    let e = start_at 0 K I o in
    let f = follows t xs (fresh_state t.count I) e k0 kG (follows_first 0 K I o) in
    record {
      never_above = f.q.low;
      less_than_d = near_below (2 ^ 20) (take_all e xs).K 2 _ _ _ D (subst (λ (k : ℕ). 2 ^ 21 ≤ D * k) (sym (same_k xs e)) d.not_below) f.q;
    }
