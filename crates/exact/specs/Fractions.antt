-- Fractions, and E's p and q: METHOD.md, "The exact machine E". E holds numerators; this is what they stand for.
use Rattle.std.specs.Prelude.{◌≡◌, ℕ, ◌+◌, ◌*◌, ◌^◌, ◌≤◌, ◌<◌}
use Rattle.exact.specs.Exact.{E}

pub record Fraction : Type 0 where
  pub over : ℕ
  pub under : ℕ

-- two fractions are the same number
abbrev pub Same : Fraction → Fraction → Type 0
Same a b = a.over * b.under ≡ b.over * a.under

-- a fraction is at least n, and less than n
abbrev pub AtLeast : Fraction → ℕ → Type 0
AtLeast a n = n * a.under ≤ a.over

abbrev pub LessThan : Fraction → ℕ → Type 0
LessThan a n = a.over < n * a.under

-- a whole number; a sum; a fraction times a whole number, and over one
abbrev pub whole : ℕ → Fraction
whole n = record { over = n; under = 1 }

abbrev pub sum : Fraction → Fraction → Fraction
sum a b = record { over = a.over * b.under + b.over * a.under; under = a.under * b.under }

abbrev pub times : Fraction → ℕ → Fraction
times a n = record { over = a.over * n; under = a.under }

abbrev pub over : Fraction → ℕ → Fraction
over a n = record { over = a.over; under = a.under * n }

-- p and q of E
abbrev pub p : E → Fraction
p e = record { over = e.pn; under = (2 ^ 20) ^ e.y }

abbrev pub q : E → Fraction
q e = record { over = e.qn; under = (2 ^ 20) ^ (e.y + 1) }
