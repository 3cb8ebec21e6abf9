-- The named rates: METHOD.md, "Rates".
use Rattle.std.specs.Prelude.{Bool, true, cond, ◌&&◌, ◌≡◌, ℕ, ◌+◌, ◌-◌, ◌*◌, ◌/◌, ◌^◌, ◌≤◌, eqb, leb, Option, Some, None, is_some, unwrap_or}
use Rattle.rate.specs.declared.Rate.{Rate}

-- the table's rows: code, samples a second, K, I and D
abbrev pub hz694 : Rate
hz694 = record { code = 1; hertz = 694; k = 49174; i = 139; d = 43 }

abbrev pub hz8000 : Rate
hz8000 = record { code = 2; hertz = 8000; k = 4360; i = 1600; d = 481 }

abbrev pub hz16000 : Rate
hz16000 = record { code = 3; hertz = 16000; k = 2182; i = 3200; d = 962 }

abbrev pub hz32000 : Rate
hz32000 = record { code = 4; hertz = 32000; k = 1092; i = 6400; d = 1921 }

abbrev pub hz48000 : Rate
hz48000 = record { code = 5; hertz = 48000; k = 728; i = 9600; d = 2881 }

-- the rate that a code names, if any
unfoldable pub rate_of : ℕ → Option Rate
rate_of code =
    cond (eqb code 1) (Some hz694)
    (cond (eqb code 2) (Some hz8000)
    (cond (eqb code 3) (Some hz16000)
    (cond (eqb code 4) (Some hz32000)
    (cond (eqb code 5) (Some hz48000)
    None))))

-- whether a code names a rate
unfoldable pub is_named : ℕ → Bool
is_named code = is_some (rate_of code)

-- the row of a code; a row of zeros where the code names no rate
abbrev pub zero_row : Rate
zero_row = record { code = 0; hertz = 0; k = 0; i = 0; d = 0 }

unfoldable pub row_of : ℕ → Rate
row_of code = unwrap_or (rate_of code) zero_row

-- c is the smallest whole number not below a/b
pub record Ceiling (a b c : ℕ) : Type 0 where
  pub not_below : a ≤ c * b
  pub smallest : (x : ℕ) → a ≤ x * b → c ≤ x

-- 10^10·e is between these two
abbrev pub e_low : ℕ
e_low = 27182818284

abbrev pub e_high : ℕ
e_high = 27182818285

-- The smoothing time T: P.56 has g = exp(−1/(f·T)) at f samples a second, and here g is 1 − K/2^20. So T is i samples or longer where g^i ≥ 1/e, and i
-- samples or shorter where g^i ≤ 1/e. Each test has the end of e with which it is the stricter
unfoldable pub lasts_at_least : (K i : ℕ) → Bool
lasts_at_least K i = leb (10 ^ 10 * (2 ^ 20) ^ i) (e_low * (2 ^ 20 - K) ^ i)

unfoldable pub lasts_at_most : (K i : ℕ) → Bool
lasts_at_most K i = leb (e_high * (2 ^ 20 - K) ^ i) (10 ^ 10 * (2 ^ 20) ^ i)

-- K "keeps T within Table 2's 5 %" of 0.03 s: from 0.0285 s, rounded up to samples, to 0.0315 s, rounded down
unfoldable pub keeps_time : (f K : ℕ) → Bool
keeps_time f K = lasts_at_least K ((285 * f + 9999) / 10000) && lasts_at_most K (315 * f / 10000)

-- what a row's figures keep to: the coefficient 1 − K/2^20 is a fraction and keeps T, I is the least number of samples that lasts 0.2 s, and D the least
-- whole number that is 2^21/K or more
pub record Keeps (r : Rate) : Type 0 where
  pub k_low : 1 ≤ r.k
  pub k_high : r.k ≤ 2 ^ 20
  pub time_rule : keeps_time r.hertz r.k ≡ true
  pub i_rule : Ceiling r.hertz 5 r.i
  pub d_rule : Ceiling (2 ^ 21) r.k r.d
