-- The place that the code finds is the number's only one, so m and the answer are the definition's.
use Rattle.std.proofs.Common.{◌≡◌, ℕ, ◌+◌, ◌*◌, ◌/◌, ◌%◌, ◌^◌, ◌<◌, ◌≤◌, pow-suc, mod-eq_of_lt, arith}
use Rattle.std.proofs.lemmas.Bool.Decides.{nat_tests}
use Rattle.std.proofs.lemmas.Int.{to_z-of_z}
use Rattle.level.specs.Logarithm.{place, start, spell, lev, level_of, value_of}
use Rattle.level.proofs.Laws.{place_is}
use Rattle.level.proofs.lev.Goals as goal

-- lev by the place p, of which m is the start
lev_by : (n p r : ℕ) → n ≤ 2 ^ 80 → 2 ^ p ≤ n → n < 2 * 2 ^ p → r ≡ spell 12 (n * 2 ^ 31 % 2 ^ 128 / 2 ^ p) → 4096 * p + r ≡ lev n
unfolding lev start
lev_by n p r u low up e =
    let q : place n ≡ p = place_is n p u low (omega (arith, pow-suc 2 p)) in
    let f : n * 2 ^ 31 % 2 ^ 128 ≡ n * 2 ^ 31 = mod-eq_of_lt (omega arith) in
    rw (e, f, q)

pub returns-then-n-eq0 : goal.returns-then-n-eq0
unfolding value_of level_of
returns-then-n-eq0 c = grind (arith, nat_tests)

pub returns : goal.returns
unfolding value_of level_of
returns c =
    let p = c.ilog2-place in
    let e = lev_by c.args.n p.result c.twelve_bits.result c.if-n-gt-MOST.false p.ensures.power_le p.ensures.next_power_gt c.twelve_bits.ensures.value in
    grind (arith, nat_tests, to_z-of_z)
