-- What is known of a named rate, whichever it is: `row_keeps` and `named_small`, by which the crates above know it, and `named_code`. Only this file goes
-- through the table's rows.
use mathlib.Core.Bool.{Bool, true, false, cond}
use Rattle.std.specs.Prelude.{Option, Some, None, is_some, unwrap_or}
use mathlib.Core.Path.{◌≡◌, refl, sym, ap, subst}
use Prim.Native.Nat.{ℕ, zero, suc, ◌+◌, ◌-◌, ◌*◌, ◌^◌, ◌≤◌, ◌<◌}
use native.Mathlib.Omega.{arith}
use native.Mathlib.Nat.{lt_of_not-le, not-le_of_lt, mul-le-mul_right, one-le-pow}
use borrow.Author.Tests.{eqb-true, leb-true}
use lib.Dec.{T, eqb, lit≤}
use Rattle.rate.specs.declared.Rate.{Rate}
use Rattle.rate.specs.Rates.{hz694, hz8000, hz16000, hz32000, hz48000, rate_of, is_named, zero_row, row_of, Ceiling, e_low, e_high, lasts_at_least, lasts_at_most, keeps_time, Keeps}

-- P of the rate, where there is one
Of : (Rate → Type 0) → Option Rate → Type 0
Of P None = Unit {0}
Of P (Some r) = P r

by_test : (P : Rate → Type 0) (b : Bool) (r : Rate) (o : Option Rate) → (b ≡ true → P r) → Of P o → Of P (cond b (Some r) o)
unfolding Of
by_test P true r o p q = p refl
by_test P false r o p q = q

-- P of every row, at its code
abbrev Rows : (ℕ → Rate → Type 0) → Type 0
Rows P = P 1 hz694 × P 2 hz8000 × P 3 hz16000 × P 4 hz32000 × P 5 hz48000

-- what holds of every row holds of the rate that a code names
each_row : (P : ℕ → Rate → Type 0) → Rows P → (code : ℕ) (r : Rate) → rate_of code ≡ Some r → P code r
unfolding rate_of Of
each_row P rows code r e =
    subst (Of (P code)) e
    (by_test (P code) (eqb code 1) _ _ (at 1 _ rows.0)
    (by_test (P code) (eqb code 2) _ _ (at 2 _ rows.1)
    (by_test (P code) (eqb code 3) _ _ (at 3 _ rows.2)
    (by_test (P code) (eqb code 4) _ _ (at 4 _ rows.3)
    (by_test (P code) (eqb code 5) _ _ (at 5 _ rows.4) tt)))))
  where
    at : (c : ℕ) (r : Rate) → P c r → eqb code c ≡ true → P code r
    at c r p h = subst (λ (x : ℕ). P x r) (sym (eqb-true code c h)) p

-- a number that is not below a/b, and less than one above it
ceiling : {a b c : ℕ} → a ≤ c * b → c * b < a + b → Ceiling a b c
ceiling {a} {b} {c} low high = record { not_below = low; smallest = λ x h. omega (arith, lt_of_not-le (below x h)) }
  where
    below : (x : ℕ) → a ≤ x * b → x + 1 ≤ c → ⊥
    below x h g = let p : (x + 1) * b ≤ c * b = mul-le-mul_right b g in not-le_of_lt high (omega arith)

-- the rules as comparisons of numerals
abbrev Figures : Rate → Type 0
Figures r =
    (1 ≤ r.k)
    × (r.k ≤ 2 ^ 20)
    × (r.hertz ≤ r.i * 5)
    × (r.i * 5 < r.hertz + 5)
    × (2 ^ 21 ≤ r.d * r.k)
    × (r.d * r.k < 2 ^ 21 + r.k)

named_figures : (code : ℕ) (r : Rate) → rate_of code ≡ Some r → Figures r
named_figures = each_row (λ code r. Figures r) (omega arith)

-- by computation: at the last rate the numbers have some 30000 bits
named_time : (code : ℕ) (r : Rate) → rate_of code ≡ Some r → keeps_time r.hertz r.k ≡ true
unfolding lasts_at_least lasts_at_most keeps_time
named_time = each_row (λ code r. keeps_time r.hertz r.k ≡ true) (refl, refl, refl, refl, refl)

pub named_keeps : (code : ℕ) (r : Rate) → rate_of code ≡ Some r → Keeps r
named_keeps code r e =
    let f = named_figures code r e in
    record { k_low = f.0; k_high = f.1; time_rule = named_time code r e; i_rule = ceiling f.2 f.3; d_rule = ceiling f.4 f.5 }

pub named_code : (code : ℕ) (r : Rate) → rate_of code ≡ Some r → r.code ≡ code
named_code = each_row (λ code r. r.code ≡ code) (refl, refl, refl, refl, refl)

-- ---- e, in the rule of the smoothing time

-- no K passes both tests at one i, since e lies between them; with its two ends exchanged this can't be shown
pub not_both : (K i : ℕ) → lasts_at_least K i ≡ true → lasts_at_most K i ≡ true → ⊥
unfolding lasts_at_least lasts_at_most
not_both K i low high =
    compared ((2 ^ 20) ^ i) ((2 ^ 20 - K) ^ i) (one-le-pow i (2 ^ 20) (lit≤ tt)) (leb-true _ _ low) (leb-true _ _ high)
  where
    compared : (x y : ℕ) → 0 < x → 10 ^ 10 * x ≤ e_low * y → e_high * y ≤ 10 ^ 10 * x → ⊥
    compared x y p l h = omega arith

-- n!, and the sum of n!/k! for k from 0 to n
abbrev factorial : ℕ → ℕ
factorial zero = 1
factorial (suc n) = suc n * factorial n

abbrev partial : ℕ → ℕ
partial zero = 1
partial (suc n) = suc n * partial n + 1

-- e, the sum of 1/k! over all k, is above the sum up to k = 13, and by less than 1/(13·13!)
pub e_between : (e_low * factorial 13 ≤ 10 ^ 10 * partial 13) × (10 ^ 10 * (13 * partial 13 + 1) ≤ e_high * (13 * factorial 13))
e_between = (lit≤ tt, lit≤ tt)

-- ---- by the code alone

pub row_is : (code : ℕ) (r : Rate) → rate_of code ≡ Some r → row_of code ≡ r
unfolding row_of
row_is code r e = ap (λ (o : Option Rate). unwrap_or o zero_row) e

-- what holds wherever a code names a rate
from_rate : {P : Type 0} (code : ℕ) → ((r : Rate) → rate_of code ≡ Some r → P) → is_named code ≡ true → P
unfolding is_named
from_rate {P} code f n = go (rate_of code) refl n
  where
    go : (o : Option Rate) → rate_of code ≡ o → is_some o ≡ true → P
    go None e h = absurd (subst T (sym h) tt)
    go (Some r) e h = f r e

pub row_keeps : (code : ℕ) → is_named code ≡ true → Keeps (row_of code)
row_keeps code n = from_rate code (λ r e. subst Keeps (sym (row_is code r e)) (named_keeps code r e)) n

-- a code that names a rate fits a byte
pub named_small : (code : ℕ) → is_named code ≡ true → code < 256
named_small code n = from_rate code (each_row (λ c r. c < 256) (omega arith) code) n

pub zero_unnamed : is_named 0 ≡ false
unfolding is_named rate_of
zero_unnamed = refl
