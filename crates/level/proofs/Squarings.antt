-- The squarings of the level logarithm: one bounded both ways, then k by induction, at a variable k. An upper bound m + e on the true mantissa
-- goes over to the next one as 3e + 1. Nothing is computed with the exponent 2^12.
use Rattle.std.proofs.Common.{◌≡◌, ℕ, zero, suc, ◌+◌, ◌-◌, ◌*◌, ◌/◌, ◌^◌, ◌<◌, ◌≤◌, sym, ap, ◌∙◌, le_trans, le_of_eq, lt_of_lt_of_le, lt_of_le_of_lt, mul-le-mul_right, zero-lt-suc, mul_assoc, mul_comm, mul-le-mul, mul-le-mul_left, mul-lt-mul_of_pos_right, pow-suc, mul-one, mul_left_comm, arith, pow_pos, pow-add}
use native.Mathlib.Nat.{one-le-pow, pow-le-pow_left, two-pow-succ}
use lib.Pow.{shr_mono}
use Rattle.std.proofs.lemmas.Bool.Decides.{nat_tests}
use Rattle.std.proofs.lemmas.Nat.{mul-pow}
use Rattle.level.specs.Logarithm.{bit, next, spell}
use Rattle.level.proofs.Powers.{pow_one, pow_mul, square_pow}

-- what a step divides by
abbrev pub by : ℕ → ℕ
by t = 2 ^ 31 * 2 ^ bit t

-- ---- one step

pub next_low : (t : ℕ) → next t * by t ≤ t
unfolding next bit
next_low t = grind (arith, nat_tests)

pub next_up : (t : ℕ) → t < (next t + 1) * by t
unfolding next bit
next_up t = grind (arith, nat_tests)

pub next_fits : (t : ℕ) → t < 2 ^ 64 → next t < 2 ^ 32
unfolding next
next_fits t h = grind (arith, nat_tests)

pub square_fits : {m : ℕ} → m < 2 ^ 32 → m * m < 2 ^ 64
square_fits {m} h =
    let g : m ≤ 2 ^ 32 - 1 = omega arith in
    let p : m * m ≤ (2 ^ 32 - 1) * (2 ^ 32 - 1) = mul-le-mul g g in
    omega arith

pub next_stays : (m : ℕ) → 2 ^ 31 ≤ m → 2 ^ 31 ≤ next (m * m)
unfolding next
next_stays m h = let p : 2 ^ 31 * 2 ^ 31 ≤ m * m = mul-le-mul h h in grind (arith, nat_tests)

-- 2m + e is at most thrice what the step divides by: where the bit is 0, m is below 2^31 times the root of 2
root : (m : ℕ) → m * m < 2 ^ 63 → m < 3037000500
root m h = grind arith

thrice : (m e : ℕ) → m < 2 ^ 32 → e ≤ 2 ^ 28 → 2 * m + e ≤ 3 * by (m * m)
unfolding bit
thrice m e h l = grind (arith, nat_tests, root)

-- an upper bound m + e goes over to the next m as 3e + 1
carry : (m e n d : ℕ) → m * m < (n + 1) * d → 2 * m + e ≤ 3 * d → (m + e) * (m + e) ≤ (n + (3 * e + 1)) * d
carry m e n d h l = let p : e * (2 * m + e) ≤ e * (3 * d) = mul-le-mul_left e l in omega arith

pub next_carry : (m e : ℕ) → m < 2 ^ 32 → e ≤ 2 ^ 28 → (m + e) * (m + e) ≤ (next (m * m) + (3 * e + 1)) * by (m * m)
next_carry m e h l = carry m e (next (m * m)) (by (m * m)) (next_up (m * m)) (thrice m e h l)

-- ---- k steps, from below: 2^spell times (2^31)^(2^k) is at most m^(2^k)

shuffle : (a b c : ℕ) → a * b * (c * c) ≡ b * c * (c * a)
shuffle a b c = simp (mul_assoc, mul_comm, mul_left_comm)

-- the algebra of one step, with K for 2^k, q for 2^31, r for 2^bit, s for 2^spell
low_step : (K q r s m n : ℕ) → n * (q * r) ≤ m * m → s * q ^ K ≤ n ^ K → r ^ K * s * q ^ (K + K) ≤ m ^ (K + K)
low_step K q r s m n h ih =
    le_trans
    (le_of_eq (ap (λ (x : ℕ). r ^ K * s * x) (pow-add q K K) ∙ shuffle (r ^ K) s (q ^ K)))
    (le_trans (mul-le-mul_right (q ^ K * r ^ K) ih)
    (le_trans (le_of_eq (ap (λ (x : ℕ). n ^ K * x) (sym (mul-pow q r K)) ∙ sym (mul-pow n (q * r) K)))
    (le_trans (pow-le-pow_left h K) (le_of_eq (sym (square_pow m K))))))

pow_spell : (k b s : ℕ) → 2 ^ (b * 2 ^ k + s) ≡ (2 ^ b) ^ (2 ^ k) * 2 ^ s
pow_spell k b s = pow-add 2 (b * 2 ^ k) s ∙ ap (λ (x : ℕ). x * 2 ^ s) (pow_mul 2 b (2 ^ k))

pub low : (k m : ℕ) → 2 ^ 31 ≤ m → 2 ^ spell k m * (2 ^ 31) ^ (2 ^ k) ≤ m ^ (2 ^ k)
unfolding spell
low zero m h = rw (pow_one (2 ^ 31), pow_one m) (omega arith)
low (suc k) m h =
    rw (two-pow-succ k, pow_spell k (bit (m * m)) (spell k (next (m * m))))
    (low_step (2 ^ k) (2 ^ 31) (2 ^ bit (m * m)) (2 ^ spell k (next (m * m))) m (next (m * m)) (next_low (m * m)) (low k (next (m * m)) (next_stays m h)))

-- ---- k steps, from above: (m + e)^(2^k) is below 2^(spell + 2) times (2^31)^(2^k)

up_step : (K q r s m n : ℕ) → 0 < q → 0 < r → m * m ≤ n * (q * r) → n ^ K < s * q ^ K → m ^ (K + K) < r ^ K * s * q ^ (K + K)
up_step K q r s m n hq hr h ih =
    lt_of_le_of_lt
    (le_trans (le_of_eq (square_pow m K)) (le_trans (pow-le-pow_left h K) (le_of_eq (mul-pow n (q * r) K ∙ ap (λ (x : ℕ). n ^ K * x) (mul-pow q r K)))))
    (lt_of_lt_of_le (mul-lt-mul_of_pos_right ih (mul-le-mul (one-le-pow K q hq) (one-le-pow K r hr)))
    (le_of_eq (sym (ap (λ (x : ℕ). r ^ K * s * x) (pow-add q K K) ∙ shuffle (r ^ K) s (q ^ K)))))

pub up : (k m e : ℕ) → m < 2 ^ 32 → (e + 1) * 3 ^ k ≤ 2 ^ 28 → (m + e) ^ (2 ^ k) < 2 ^ (spell k m + 2) * (2 ^ 31) ^ (2 ^ k)
unfolding spell
up zero m e h l = rw (pow_one (m + e)) (omega (arith, mul-one (e + 1)))
up (suc k) m e h l =
    rw (two-pow-succ k, exponent, pow_spell k (bit (m * m)) (spell k (next (m * m)) + 2))
    (up_step (2 ^ k) (2 ^ 31) (2 ^ bit (m * m)) (2 ^ (spell k (next (m * m)) + 2)) (m + e) (next (m * m) + (3 * e + 1)) (pow_pos 31) (pow_pos (bit (m * m)))
    (next_carry m e h small)
    (up k (next (m * m)) (3 * e + 1) (next_fits (m * m) (square_fits h)) again))
  where
    three : (e + 1) * 3 ^ suc k ≡ 3 * ((e + 1) * 3 ^ k)
    three = rw (pow-suc 3 k) (simp (mul_comm, mul_left_comm))

    one : 1 ≤ 3 ^ k
    one = one-le-pow k 3 (zero-lt-suc 2)

    small : e ≤ 2 ^ 28
    small = let p : (e + 1) * 1 ≤ (e + 1) * 3 ^ k = mul-le-mul_left (e + 1) one in omega (arith, three)

    again : (3 * e + 1 + 1) * 3 ^ k ≤ 2 ^ 28
    again = let p : (3 * e + 1 + 1) * 3 ^ k ≤ (3 * (e + 1)) * 3 ^ k = mul-le-mul_right (3 ^ k) (omega arith) in omega (arith, three)

    exponent : bit (m * m) * 2 ^ k + spell k (next (m * m)) + 2 ≡ bit (m * m) * 2 ^ k + (spell k (next (m * m)) + 2)
    exponent = omega arith

-- ---- order

pub bit_le : (t : ℕ) → bit t ≤ 1
unfolding bit
bit_le t = grind (arith, nat_tests)

pub spell_lt : (k m : ℕ) → spell k m < 2 ^ k
unfolding spell
spell_lt zero m = omega arith
spell_lt (suc k) m =
    let p : bit (m * m) * 2 ^ k ≤ 1 * 2 ^ k = mul-le-mul_right (2 ^ k) (bit_le (m * m)) in
    omega (arith, spell_lt k (next (m * m)), two-pow-succ k)

-- of two tests the larger number's is no lower; where they agree so do the next m's order
pub spell_mono : (k m n : ℕ) → m ≤ n → spell k m ≤ spell k n
unfolding spell bit next
spell_mono zero m n h = omega arith
spell_mono (suc k) m n h =
    let q : m * m ≤ n * n = mul-le-mul h h in
    let a = shr_mono 31 q in
    let b = shr_mono 32 q in
    grind (arith, nat_tests, spell_lt k (next (m * m)), spell_mono k (next (m * m)) (next (n * n)))

-- ---- a loop that takes the twelve steps one by one

-- the bits so far, and those that are left for m, spell what twelve squarings of start spell
pub record Spells (start m bits turns : ℕ) : Type 0 where
  pub fits : m < 2 ^ 32
  pub spells : bits * 2 ^ (12 - turns) + spell (12 - turns) m ≡ spell 12 start

bit_is : (t : ℕ) → t < 2 ^ 64 → t / 2 ^ 63 ≡ bit t
unfolding bit
bit_is t h = grind (arith, nat_tests)

next_is : (t : ℕ) → t / 2 ^ (31 + bit t) ≡ next t
unfolding next bit
next_is t = grind (arith, nat_tests)

turn_suc : (S j m r : ℕ) → r * 2 ^ suc j + spell (suc j) m ≡ S → (2 * r + bit (m * m)) * 2 ^ j + spell j (next (m * m)) ≡ S
unfolding spell
turn_suc S j m r h = omega (arith, rw (two-pow-succ j) at h)

pub turn : {n m r i : ℕ} → Spells n m r i → i < 12 → Spells n (m * m / 2 ^ (31 + m * m / 2 ^ 63)) (2 * r + m * m / 2 ^ 63) (i + 1)
turn {n} {m} {r} {i} h l =
    let p : 12 - i ≡ suc (12 - (i + 1)) = omega arith in
    rw (bit_is (m * m) (square_fits h.fits), next_is (m * m))
    (record { fits = next_fits (m * m) (square_fits h.fits); spells = turn_suc (spell 12 n) (12 - (i + 1)) m r (rw p at h.spells) })

pub bits_small : {n m r i : ℕ} → Spells n m r i → r < 4096
bits_small {n} {m} {r} {i} h =
    let p : r * 1 ≤ r * 2 ^ (12 - i) = mul-le-mul_left r (pow_pos (12 - i)) in
    omega (arith, h.spells, spell_lt 12 n)

pub bits_done : {n m r i : ℕ} → Spells n m r i → 12 ≤ i → r ≡ spell 12 n
unfolding spell
bits_done {i = i} h l = let e : 12 - i ≡ 0 = omega arith in omega (arith, rw e at h.spells)
