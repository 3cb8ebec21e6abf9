-- E in his scope's own words, over fractions and without rounding: METHOD.md, "The exact machine E". Demand 3 says that E is this.
use Rattle.std.specs.Prelude.{List, [], ◌∷◌, ◌≡◌, ℕ, ◌+◌, ◌-◌, ◌*◌, ◌^◌, ◌≤◌, ◌<◌, ℤ}
use Rattle.setting.specs.declared.Setting.{Setting}
use Rattle.setting.specs.Settings.{k_of, i_of}
use Rattle.exact.specs.Exact.{E, distance}
use Rattle.exact.specs.Fractions.{Same, AtLeast, whole, sum, times, over, p, q}

-- "It holds that code, with its K and I", and the offset. "At first y, p, q and each u are zero and each v is I"
pub record AtFirst (c : Setting) (e : E) : Type 0 where
  pub code : e.code ≡ c.code
  pub K : e.K ≡ k_of c
  pub I : e.I ≡ i_of c
  pub o : e.o ≡ c.offset
  pub y : e.y ≡ 0
  pub p_zero : Same (p e) (whole 0)
  pub q_zero : Same (q e) (whole 0)
  pub u : (t : ℕ) → e.u t ≡ 0
  pub v : (t : ℕ) → e.v t ≡ e.I

-- of the E before a sample and the E after it, at a threshold t: "If q ≥ c: u grows by 1, v becomes 0. Else if v < I: both grow by 1. Else nothing"
pub record CountedAt (e e' : E) (t : ℕ) : Type 0 where
  pub at_least : AtLeast (q e') t → (e'.u t ≡ e.u t + 1) × (e'.v t ≡ 0)
  pub hanging : (AtLeast (q e') t → ⊥) → e.v t < e.I → (e'.u t ≡ e.u t + 1) × (e'.v t ≡ e.v t + 1)
  pub run_out : (AtLeast (q e') t → ⊥) → e.I ≤ e.v t → (e'.u t ≡ e.u t) × (e'.v t ≡ e.v t)

-- of the E before a sample x and the E after it: "y grows by 1; p becomes (p(2^20 − K) + |x|·2^24·K) / 2^20; then q becomes (q(2^20 − K) + p·K) / 2^20
-- with the new p", and, as his request L2 has it, "works on x − o wherever it read x"
pub record AfterOne (e : E) (x : ℤ) (e' : E) : Type 0 where
  pub code : e'.code ≡ e.code
  pub K : e'.K ≡ e.K
  pub I : e'.I ≡ e.I
  pub o : e'.o ≡ e.o
  pub y : e'.y ≡ e.y + 1
  pub p_next : Same (p e') (over (sum (times (p e) (2 ^ 20 - e.K)) (whole (distance e.o x * 2 ^ 24 * e.K))) (2 ^ 20))
  pub q_next : Same (q e') (over (sum (times (q e) (2 ^ 20 - e.K)) (times (p e') e.K)) (2 ^ 20))
  pub counts : (t : ℕ) → CountedAt e e' t

-- and after samples in order
pub data Worked : E → List ℤ → E → Type 0 where
  no_sample : (e : E) → Worked e [] e
  one_more : (e e' e'' : E) (x : ℤ) (xs : List ℤ) → AfterOne e x e' → Worked e' xs e'' → Worked e (x ∷ xs) e''
