-- The envelope's error, for any K, any I, any offset and any samples from a fresh start. The count bounds of demand 3 rest on the same law of one sample.
use Rattle.std.specs.Prelude.{List, ℕ, ◌+◌, ℤ}
use Rattle.thresholds.specs.declared.Thresholds.{Thresholds}
use Rattle.sample.specs.Sample.{fresh_state, state_after}
use Rattle.exact.specs.Exact.{start_at, take_all}
use Rattle.exact.specs.Fractions.{Fraction, AtLeast, LessThan, q}

-- Q, and E's q, after samples from a fresh start with any thresholds, K, I and offset
abbrev pub envelope_after : Thresholds → (K I : ℕ) (o : ℤ) → List ℤ → ℕ
envelope_after t K I o xs = (state_after (record { k = K; i = I; offset = o }) t (fresh_state t.count I) xs).sums.q

abbrev pub exact_envelope_after : (K I : ℕ) (o : ℤ) → List ℤ → Fraction
exact_envelope_after K I o xs = q (take_all (start_at 0 K I o) xs)

-- his request L9: "after any samples from a fresh start Q is never above E's q, and less than D below it"
pub record EnvelopeBound (t : Thresholds) (K I D : ℕ) (o : ℤ) (xs : List ℤ) : Type 0 where
  pub never_above : AtLeast (exact_envelope_after K I o xs) (envelope_after t K I o xs)
  pub less_than_d : LessThan (exact_envelope_after K I o xs) (envelope_after t K I o xs + D)
