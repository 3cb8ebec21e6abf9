-- The level of a power of two is exact: lev(2^e) is 4096·e, for every e to 80.
use Rattle.std.proofs.Common.{◌≡◌, ℕ, ◌*◌, ◌^◌, ◌≤◌, refl, arith, pow_pos, pow_mono, pow-suc}
use native.Mathlib.Nat.{mul-div_cancel_left}
use Rattle.level.specs.Logarithm.{place, start, bit, next, spell, lev}
use Rattle.level.proofs.Laws.{place_is}

-- it starts at 2^31, of which every square is below 2^63
no_bits : spell 12 (2 ^ 31) ≡ 0
unfolding spell bit next
no_bits = refl

pub lev_power : (e : ℕ) → e ≤ 80 → lev (2 ^ e) ≡ 4096 * e
unfolding lev start
lev_power e l =
    let p : place (2 ^ e) ≡ e = place_is (2 ^ e) e (pow_mono l) (omega arith) (omega (arith, pow-suc 2 e, pow_pos e)) in
    rw (p, mul-div_cancel_left (2 ^ 31) (pow_pos e), no_bits) (omega arith)
