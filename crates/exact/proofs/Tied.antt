-- The meter tied to E: what holds between them after any samples, and is kept by each. The counts' orders are uses of the one law about two
-- counters: the meter against E at the threshold and at the threshold raised by D, and each threshold against the next.
use mathlib.Core.Bool.{true}
use mathlib.Core.List.{List, [], ◌∷◌}
use mathlib.Core.Path.{◌≡◌, refl, sym, ◌∙◌, ap, subst}
use Prim.Native.Nat.{ℕ, ◌+◌, ◌*◌, ◌^◌, ◌≤◌, ◌<◌, zero-le}
use native.Mathlib.Nat.{le_trans, le_of_eq, mul-le-mul}
use native.Mathlib.Omega.{arith}
use borrow.Author.Tests.{leb-true, le-leb}
use lib.Dec.{leb}
use lib.IntN.{ℤ, nat_abs}
use lib.ListN.{get_or, length}
use mir.Syntax.{w16}
use mir.Val.{SFits}
use Rattle.std.proofs.lemmas.Int.{ints}
use Rattle.level.specs.declared.Samples.{Samples}
use Rattle.level.specs.Types.{samples_of, activity, two_words}
use Rattle.thresholds.specs.declared.Thresholds.{Thresholds}
use Rattle.thresholds.specs.Lists.{places, threshold_of}
use Rattle.thresholds.specs.Rising.{Rising}
use Rattle.level.proofs.Words.{two_of_words}
use Rattle.coding.specs.Typed.{AllSamples}
use Rattle.sample.specs.declared.Counting.{Counting}
use Rattle.sample.specs.declared.State.{State}
use Rattle.sample.specs.Activity.{counted, hung}
use Rattle.sample.specs.Envelope.{smooth, size, rectified}
use Rattle.sample.specs.Sample.{up_to, each, fresh_state, summed, counts, hangovers, state_after_one, state_after}
use Rattle.sample.proofs.Activity.{Under, under_step, counted_le, hung_le}
use Rattle.sample.proofs.Envelope.{smooth_le}
use Rattle.thresholds.proofs.Places.{each_at, up_to_at, up_to_past, filled_at}
use Rattle.sample.proofs.Signs.{small, size_small}
use Rattle.exact.specs.Exact.{E, start_at, distance, reaches, count_next, hangover_next, take_one, take_all}
use Rattle.exact.proofs.Envelope.{Follows, kept, follows_one, follows_first, then_exact, then_rounded}

-- what E counts by, as the meter holds it
abbrev pub by : E → Counting
by e = record { k = e.K; i = e.I; offset = e.o }

-- ---- what E keeps: what one sample leaves as it was, all of them do

pub same_code : (xs : List ℤ) (e : E) → (take_all e xs).code ≡ e.code
unfolding take_one
same_code = kept (λ e. e.code) (λ e x. refl)

pub same_i : (xs : List ℤ) (e : E) → (take_all e xs).I ≡ e.I
unfolding take_one
same_i = kept (λ e. e.I) (λ e x. refl)

pub same_o : (xs : List ℤ) (e : E) → (take_all e xs).o ≡ e.o
unfolding take_one
same_o = kept (λ e. e.o) (λ e x. refl)

pub total : (xs : List ℤ) (e : E) → (take_all e xs).y ≡ e.y + length xs
unfolding take_all take_one
total [] e = omega arith
total (x ∷ xs) e = omega (arith, total xs (take_one e x))

-- ---- the tie

-- the meter's counter at a threshold c, against E
pub record Between (D c n a h : ℕ) (e : E) : Type 0 where
  pub low : Under (e.u (c + D)) (e.v (c + D)) a h
  pub high : Under a h (e.u c) (e.v (c))
  pub few : a ≤ n
  pub held : h ≤ e.I

pub record Tied (T : Thresholds) (D : ℕ) (m : State) (e : E) : Type 0 where
  pub taken : m.sums.n.0 ≡ e.y
  pub power : two_words m.sums.sq ≡ e.sq
  pub envelope : Follows m.sums.p m.sums.q e
  pub each : (j : ℕ) → j < T.count → Between D (threshold_of T j) m.sums.n.0 (activity m.a j) (get_or m.h j 0) e
  pub falls : (j : ℕ) → j + 1 < T.count → Under (activity m.a (j + 1)) (get_or m.h (j + 1) 0) (activity m.a j) (get_or m.h j 0)
  pub a_past : (j : ℕ) → j < places → T.count ≤ j → activity m.a j ≤ 0
  pub h_past : (j : ℕ) → j < places → T.count ≤ j → get_or m.h j 0 ≤ 0
  pub sum : nat_abs m.sums.s ≤ m.sums.n.0 * 2 ^ 15
  pub squares : two_words m.sums.sq ≤ m.sums.n.0 * 2 ^ 32
  pub p_max : m.sums.p ≤ 2 ^ 40
  pub q_max : m.sums.q ≤ 2 ^ 40

-- the count and the hangover at threshold j after a sample that left the envelope at Q
unfoldable pub count_of : (T : Thresholds) (I Q : ℕ) → State → (j : ℕ) → ℕ
count_of T I Q m j = counted I (leb (threshold_of T j) Q) (activity m.a j) (get_or m.h j 0)

unfoldable pub hang_of : (T : Thresholds) (I Q : ℕ) → State → (j : ℕ) → ℕ
hang_of T I Q m j = hung I (leb (threshold_of T j) Q) (get_or m.h j 0)

-- what stands at each place of the lists of counts and hangovers
abbrev count_list : (k : ℕ) → (ℕ → ℕ) → List Samples
count_list k f = each places (λ i. samples_of (up_to k f i))

abbrev hang_list : (k : ℕ) → (ℕ → ℕ) → List ℕ
hang_list k f = each places (up_to k f)

count_at_lem : (k : ℕ) (f : ℕ → ℕ) (j : ℕ) → k ≤ places → j < k → activity (count_list k f) j ≡ f j
count_at_lem k f j m l = ap (λ (n : Samples). n.0) (each_at (samples_of 0) places (λ i. samples_of (up_to k f i)) j (omega arith)) ∙ up_to_at k f j l

hang_at : (k : ℕ) (f : ℕ → ℕ) (j : ℕ) → k ≤ places → j < k → get_or (hang_list k f) j 0 ≡ f j
hang_at k f j m l = filled_at places k f j m l

no_count_lem : (k : ℕ) (f : ℕ → ℕ) (j : ℕ) → j < places → k ≤ j → activity (count_list k f) j ≤ 0
no_count_lem k f j l g = le_of_eq (ap (λ (n : Samples). n.0) (each_at (samples_of 0) places (λ i. samples_of (up_to k f i)) j l) ∙ up_to_past k f j g)

no_hangover : (k : ℕ) (f : ℕ → ℕ) (j : ℕ) → j < places → k ≤ j → get_or (hang_list k f) j 0 ≤ 0
no_hangover k f j l g = le_of_eq (each_at 0 places (up_to k f) j l ∙ up_to_past k f j g)

pub both_at : (k k' : ℕ) (f g f' g' : ℕ → ℕ) (i j : ℕ) → k ≤ places → k' ≤ places → i < k → j < k' → Under (f i) (g i) (f' j) (g' j)
    → Under (activity (count_list k f) i) (get_or (hang_list k g) i 0) (activity (count_list k' f') j) (get_or (hang_list k' g') j 0)
both_at k k' f g f' g' i j m m' l l' u =
    record {
      count = omega (arith, count_at_lem k f i m l, count_at_lem k' f' j m' l', u.count);
      hang = omega (arith, hang_at k g i m l, hang_at k' g' j m' l', u.hang);
    }

more : (s n y : ℕ) → s ≤ n * 2 ^ 32 → y ≤ 2 ^ 16 * 2 ^ 16 → s + y ≤ (n + 1) * 2 ^ 32
more s n y h k = omega arith

module _ (T : Thresholds) (R : Rising T) (D : ℕ) (m : State) (e : E) (x : ℤ) (k0 : 0 < e.K) (kG : e.K ≤ 2 ^ 20) (wide : 2 ^ 21 ≤ D * e.K) (sx : nat_abs x ≤ 2 ^ 15) (so : size e.o x ≤ 2 ^ 16) (t : Tied T D m e) where
  -- the envelope after the sample, of the meter and of E
  P : ℕ
  P = smooth e.K m.sums.p (rectified e.o x)

  Q : ℕ
  Q = smooth e.K m.sums.q P

  near : Follows P Q (take_one e x)
  unfolding P Q
  near = follows_one m.sums.p m.sums.q e x k0 kG t.envelope

  -- E is on at a threshold whenever the meter is, and the meter whenever E is on at the threshold raised by D
  on_exact : (j : ℕ) → leb (threshold_of T j) Q ≡ true → reaches (take_one e x).y (take_one e x).qn (threshold_of T j) ≡ true
  unfolding reaches take_one
  on_exact j h = le-leb _ _ (then_exact (threshold_of T j) near.q (leb-true _ _ h))

  on_rounded : (j : ℕ) → reaches (take_one e x).y (take_one e x).qn (threshold_of T j + D) ≡ true → leb (threshold_of T j) Q ≡ true
  unfolding reaches take_one
  on_rounded j h =
      le-leb _ _ (then_rounded (2 ^ 20) e.K 2 ((2 ^ 20) ^ (e.y + 1 + 1)) Q (take_one e x).qn D (threshold_of T j) wide near.q (leb-true _ _ h))

  on_lower : (j : ℕ) → j + 1 < T.count → leb (threshold_of T (j + 1)) Q ≡ true → leb (threshold_of T j) Q ≡ true
  on_lower j l h = le-leb _ _ (le_trans (R.rises j (j + 1) (omega arith) l) (leb-true _ _ h))

  counter : (j : ℕ) → j < T.count → Between D (threshold_of T j) (m.sums.n.0 + 1) (count_of T e.I Q m j) (hang_of T e.I Q m j) (take_one e x)
  unfolding take_one count_next hangover_next counted hung count_of hang_of
  counter j l =
      let b = t.each j l in
      record {
        low = under_step e.I _ _ _ _ (reaches (take_one e x).y (take_one e x).qn (threshold_of T j + D)) (leb (threshold_of T j) Q) (on_rounded j) b.low;
        high = under_step e.I _ _ _ _ (leb (threshold_of T j) Q) (reaches (take_one e x).y (take_one e x).qn (threshold_of T j)) (on_exact j) b.high;
        few = le_trans (counted_le e.I (leb (threshold_of T j) Q) (activity m.a j) (get_or m.h j 0)) (omega (arith, b.few));
        held = hung_le e.I (leb (threshold_of T j) Q) (get_or m.h j 0) b.held;
      }

  held_p_max : P ≤ 2 ^ 40
  unfolding P rectified
  held_p_max = smooth_le e.K (2 ^ 40) m.sums.p (size e.o x * 2 ^ 24) kG t.p_max (omega (arith, so))

  pub tied_step : Tied T D (state_after_one (by e) T m x) (take_one e x)
  unfolding state_after_one summed counts hangovers count_of hang_of take_one P Q size distance
  tied_step =
      record {
        taken = ap (λ (i : ℕ). i + 1) t.taken;
        power = two_of_words (two_words m.sums.sq + size e.o x * size e.o x) ∙ ap (λ (s : ℕ). s + size e.o x * size e.o x) t.power;
        envelope = near;
        each = λ j l. subst (λ (h : ℕ). Between D (threshold_of T j) (m.sums.n.0 + 1) (activity (count_list T.count (count_of T e.I Q m)) j) h (take_one e x)) (sym (hang_at T.count (hang_of T e.I Q m) j R.few l))
            (subst (λ (a : ℕ). Between D (threshold_of T j) (m.sums.n.0 + 1) a (hang_of T e.I Q m j) (take_one e x)) (sym (count_at_lem T.count (count_of T e.I Q m) j R.few l)) (counter j l));
        falls = λ j l. both_at T.count T.count (count_of T e.I Q m) (hang_of T e.I Q m) (count_of T e.I Q m) (hang_of T e.I Q m) (j + 1) j R.few R.few l (omega arith)
            (under_step e.I _ _ _ _ (leb (threshold_of T (j + 1)) Q) (leb (threshold_of T j) Q) (on_lower j l) (t.falls j l));
        a_past = λ j l g. no_count_lem T.count (count_of T e.I Q m) j l g;
        h_past = λ j l g. no_hangover T.count (hang_of T e.I Q m) j l g;
        sum = omega (arith, ints, t.sum, sx);
        squares = le_trans (le_of_eq (two_of_words _)) (more (two_words m.sums.sq) m.sums.n.0 (size e.o x * size e.o x) t.squares (mul-le-mul so so));
        p_max = held_p_max;
        q_max = smooth_le e.K (2 ^ 40) m.sums.q P kG t.q_max held_p_max;
      }

-- samples in order
pub tied_samples : (T : Thresholds) → Rising T → (D : ℕ) (xs : List ℤ) (m : State) (e : E) → 0 < e.K → e.K ≤ 2 ^ 20 → 2 ^ 21 ≤ D * e.K → SFits w16 e.o → AllSamples xs → Tied T D m e
    → Tied T D (state_after (by e) T m xs) (take_all e xs)
unfolding state_after take_all AllSamples take_one
tied_samples T R D [] m e k0 kG wide g f t = t
tied_samples T R D (x ∷ xs) m e k0 kG wide g f t =
    tied_samples T R D xs (state_after_one (by e) T m x) (take_one e x) k0 kG wide g f.1 (tied_step T R D m e x k0 kG wide (small x f.0) (size_small e.o x g f.0) t)

-- counts of a fresh start
pub zeros_at : (j : ℕ) → j < places → activity (each places (λ i. samples_of 0)) j ≡ 0
zeros_at j l = ap (λ (n : Samples). n.0) (each_at (samples_of 0) places (λ i. samples_of 0) j l)

pub fresh_under : (T T' : Thresholds) → Rising T → Rising T' → (I i j : ℕ) → i < T.count → j < T'.count
    → Under (activity (fresh_state T.count I).a i) (get_or (fresh_state T.count I).h i 0) (activity (fresh_state T'.count I).a j) (get_or (fresh_state T'.count I).h j 0)
unfolding fresh_state
fresh_under T T' R R' I i j l l' =
    let a0 = zeros_at i (omega (arith, R.few)) in
    let a1 = zeros_at j (omega (arith, R'.few)) in
    let h0 = hang_at T.count (λ k. I) i R.few l in
    let h1 = hang_at T'.count (λ k. I) j R'.few l' in
    record { count = omega (arith, a0, a1); hang = omega (arith, h0, h1) }

-- a fresh start
pub tied_fresh : (T : Thresholds) → Rising T → (D code K I : ℕ) (o : ℤ) → Tied T D (fresh_state T.count I) (start_at code K I o)
unfolding fresh_state start_at
tied_fresh T R D code K I o =
    record {
      taken = refl;
      power = two_of_words 0;
      envelope = follows_first code K I o;
      each = λ j l.
          let a0 = zeros_at j (omega (arith, R.few)) in
          let h0 = hang_at T.count (λ i. I) j R.few l in
          record { low = omega (arith, a0, h0); high = omega (arith, a0, h0); few = omega (arith, a0); held = omega (arith, h0) };
      falls = λ j l.
          let a0 = zeros_at j (omega (arith, R.few)) in
          let a1 = zeros_at (j + 1) (omega (arith, R.few)) in
          let h0 = hang_at T.count (λ i. I) j R.few (omega arith) in
          let h1 = hang_at T.count (λ i. I) (j + 1) R.few l in
          record { count = omega (arith, a0, a1); hang = omega (arith, h0, h1) };
      a_past = λ j l g. omega (arith, zeros_at j l);
      h_past = λ j l g. no_hangover T.count (λ i. I) j l g;
      sum = zero-le;
      squares = le_of_eq (two_of_words 0);
      p_max = zero-le;
      q_max = zero-le;
    }
