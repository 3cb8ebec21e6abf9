-- E is what METHOD.md says of it over fractions: `at_first` and `worked`. The denominators grow by 2^20 with each sample, and what is left is ring
-- arithmetic. And nothing else is: `worked_once`.
use mathlib.Core.Bool.{Bool, true, false, cond, true≢false}
use mathlib.Core.List.{List, [], ◌∷◌}
use mathlib.Core.Path.{◌≡◌, refl, sym, ap, ap₂, subst, ◌∙◌}
use Prim.Native.Nat.{ℕ, ◌+◌, ◌-◌, ◌*◌, ◌^◌, ◌≤◌, ◌<◌}
use native.Mathlib.Nat.{le_antisymm, le_of_eq, le_of_mul-le-mul_right, mul-one, mul-pos}
use native.Mathlib.Nat.{lt_of_not-le}
use native.Mathlib.Omega.{arith}
use borrow.Author.Tests.{lt-leb, leb-true, le-leb, ltb-true, ltb-false, lt-ltb, le-ltb}
use lib.Dec.{leb, ltb, lit<}
use lib.IntN.{ℤ}
use Rattle.setting.specs.declared.Setting.{Setting}
use Rattle.setting.specs.Settings.{k_of, i_of}
use Rattle.exact.specs.Demands.{exact_at}
use Rattle.exact.specs.Exact.{E, start, start_at, distance, reaches, count_next, hangover_next, take_one, take_all}
use Rattle.exact.specs.Fractions.{AtLeast, q}
use Rattle.exact.specs.Worked.{AtFirst, CountedAt, AfterOne, Worked, no_sample, one_more}
use Rattle.exact.proofs.Powers.{power_pos, power_next}

pub at_first : (c : Setting) → AtFirst c (exact_at c)
unfolding start start_at k_of i_of
at_first c = record { code = refl; K = refl; I = refl; o = refl; y = refl; p_zero = refl; q_zero = refl; u = λ t. refl; v = λ t. refl }

-- over W·G against over (W·1)·G, and over U·G against over (U·U)·G
p_same : (n R X K W G : ℕ) → (n * R + X * W * K) * (W * 1 * G) ≡ (n * R * 1 + X * K * W) * (W * G)
p_same n R X K W G = omega arith

q_same : (n R p K U G : ℕ) → (n * R + p * K) * (U * U * G) ≡ (n * R * U + p * K * U) * (U * G)
q_same n R p K U G = omega arith

not_at_most : (a b : ℕ) → (a ≤ b → ⊥) → leb a b ≡ false
not_at_most a b n = lt-leb a b (lt_of_not-le n)

-- at a threshold: the test and the two cases of a hangover
counted : (e : E) (x : ℤ) (t : ℕ) → CountedAt e (take_one e x) t
unfolding take_one reaches count_next hangover_next
counted e x t =
    record {
      at_least = λ h. (simp (le-leb _ _ h), simp (le-leb _ _ h));
      hanging = λ n h. (simp (not_at_most _ _ n, lt-ltb (e.v t) e.I h), simp (not_at_most _ _ n, lt-ltb (e.v t) e.I h));
      run_out = λ n h. (simp (not_at_most _ _ n, le-ltb (e.v t) e.I h), simp (not_at_most _ _ n, le-ltb (e.v t) e.I h));
    }

after_one : (e : E) (x : ℤ) → AfterOne e x (take_one e x)
unfolding take_one
after_one e x =
    let R = 2 ^ 20 - e.K in
    let W = (2 ^ 20) ^ e.y in
    let U = (2 ^ 20) ^ (e.y + 1) in
    let X = distance e.o x * 2 ^ 24 in
    record {
      code = refl;
      K = refl;
      I = refl;
      o = refl;
      y = refl;
      p_next = p_same e.pn R X e.K W (2 ^ 20) ∙ ap (λ (v : ℕ). (e.pn * R * 1 + X * e.K * W) * v) (power_next e.y);
      q_next = q_same e.qn R (e.pn * R + X * W * e.K) e.K U (2 ^ 20)
          ∙ ap (λ (v : ℕ). (e.qn * R * U + (e.pn * R + X * W * e.K) * e.K * U) * v) (power_next (e.y + 1));
      counts = counted e x;
    }

pub worked : (xs : List ℤ) (e : E) → Worked e xs (take_all e xs)
unfolding take_all
worked [] e = no_sample e
worked (x ∷ xs) e = one_more e (take_one e x) (take_all (take_one e x) xs) x xs (after_one e x) (worked xs (take_one e x))

-- ---- and nothing else is

cancel : (a b n : ℕ) → 0 < n → a * n ≡ b * n → a ≡ b
cancel a b n h e = le_antisymm (le_of_mul-le-mul_right (le_of_eq e) h) (le_of_mul-le-mul_right (le_of_eq (sym e)) h)

-- E but for its sq, of which the recurrence says nothing
abbrev moved : E → E
moved e = record { code = e.code; K = e.K; I = e.I; o = e.o; y = e.y; pn = e.pn; qn = e.qn; u = e.u; v = e.v; sq = 0 }

module _ (e e' : E) (x : ℤ) (a : AfterOne e x e') where
  R : ℕ
  R = 2 ^ 20 - e.K

  X : ℕ
  X = distance e.o x * 2 ^ 24

  W : ℕ → ℕ
  W i = (2 ^ 20) ^ i

  pn_is : e'.pn ≡ (take_one e x).pn
  unfolding take_one R X W
  pn_is =
      let y = e.y in
      cancel _ _ (W y * 2 ^ 20) (mul-pos (power_pos y) (lit< tt))
      (ap (λ (w : ℕ). e'.pn * (w * 2 ^ 20)) (sym (mul-one (W y)))
      ∙ a.p_next
      ∙ ap (λ (i : ℕ). (e.pn * R * 1 + X * e.K * W y) * W i) a.y
      ∙ ap (λ (w : ℕ). (e.pn * R * 1 + X * e.K * W y) * w) (sym (power_next y))
      ∙ ring (e.pn * R) X e.K (W y) (2 ^ 20))
    where
      ring : (n X K W G : ℕ) → (n * 1 + X * K * W) * (W * G) ≡ (n + X * W * K) * (W * G)
      ring n X K W G = omega arith

  qn_is : e'.qn ≡ (take_one e x).qn
  unfolding take_one R W
  qn_is =
      let U = W (e.y + 1) in
      cancel _ _ (U * U * 2 ^ 20) (mul-pos (mul-pos (power_pos (e.y + 1)) (power_pos (e.y + 1))) (lit< tt))
      (subst (λ (i : ℕ). e'.qn * (U * W i * 2 ^ 20) ≡ (e.qn * R * W i + e'.pn * e.K * U) * W (i + 1)) a.y a.q_next
      ∙ ap (λ (w : ℕ). (e.qn * R * U + e'.pn * e.K * U) * w) (sym (power_next (e.y + 1)))
      ∙ ring (e.qn * R) (e'.pn * e.K) U (2 ^ 20)
      ∙ ap (λ (p : ℕ). (e.qn * R + p * e.K) * (U * U * 2 ^ 20)) pn_is)
    where
      ring : (m n U G : ℕ) → (m * U + n * U) * (U * G) ≡ (m + n) * (U * U * G)
      ring m n U G = omega arith

  -- at a threshold, by the test of the E after the sample
  abbrev on : (t : ℕ) → Bool
  on t = reaches e'.y e'.qn t

  counts_are : (t : ℕ) → (e'.u t ≡ count_next e.I (on t) (e.u t) (e.v t)) × (e'.v t ≡ hangover_next e.I (on t) (e.v t))
  unfolding reaches count_next hangover_next
  counts_are t = go (on t) refl (ltb (e.v t) e.I) refl
    where
      off : on t ≡ false → AtLeast (q e') t → ⊥
      off h l = absurd (true≢false (sym (le-leb _ _ l) ∙ h))

      go : (s : Bool) → on t ≡ s → (b : Bool) → ltb (e.v t) e.I ≡ b
          → (e'.u t ≡ cond s (e.u t + 1) (cond b (e.u t + 1) (e.u t))) × (e'.v t ≡ cond s 0 (cond b (e.v t + 1) (e.v t)))
      go true h b k = (a.counts t).at_least (leb-true _ _ h)
      go false h true k = (a.counts t).hanging (off h) (ltb-true _ _ k)
      go false h false k = (a.counts t).run_out (off h) (ltb-false _ _ k)

  same_test : (t : ℕ) → on t ≡ reaches (take_one e x).y (take_one e x).qn t
  unfolding take_one
  same_test t = ap₂ (λ (i n : ℕ). reaches i n t) a.y qn_is

  after_is : moved e' ≡ moved (take_one e x)
  unfolding take_one
  after_is = λ i. record {
    code = a.code i;
    K = a.K i;
    I = a.I i;
    o = a.o i;
    y = a.y i;
    pn = pn_is i;
    qn = qn_is i;
    u = λ t. ((counts_are t).0 ∙ ap (λ (b : Bool). count_next e.I b (e.u t) (e.v t)) (same_test t)) i;
    v = λ t. ((counts_are t).1 ∙ ap (λ (b : Bool). hangover_next e.I b (e.v t)) (same_test t)) i;
    sq = 0;
  }

worked_is : {e e' : E} {xs : List ℤ} (f : E) → moved e ≡ moved f → Worked e xs e' → moved e' ≡ moved (take_all f xs)
unfolding take_all take_one
worked_is f s (no_sample e) = s
worked_is f s (one_more e e' e'' x xs a rest) = worked_is (take_one f x) (after_is e e' x a ∙ ap (λ (d : E). moved (take_one d x)) s) rest

first_is : {c : Setting} {e : E} → AtFirst c e → moved e ≡ moved (exact_at c)
unfolding start start_at k_of i_of
first_is {c} {e} a = λ i. record {
  code = a.code i;
  K = a.K i;
  I = a.I i;
  o = a.o i;
  y = a.y i;
  pn = zero_over e.pn _ a.p_zero i;
  qn = zero_over e.qn _ a.q_zero i;
  u = λ t. a.u t i;
  v = λ t. (a.v t ∙ a.I) i;
  sq = 0;
}
  where
    zero_over : (n w : ℕ) → n * 1 ≡ 0 * w → n ≡ 0
    zero_over n w h = omega (arith, h)

-- whatever begins so and is worked so over samples counts what E counts
pub worked_once : {c : Setting} {e e' : E} {xs : List ℤ} → AtFirst c e → Worked e xs e' → (t : ℕ) → e'.u t ≡ (take_all (exact_at c) xs).u t
worked_once {c} a w t = ap (λ (d : E). d.u t) (worked_is (exact_at c) (first_is a) w)
