-- What the level clauses say at each sign of A, with no power of two but whole ones: document 01's own form where A is not below 0, and where it is, each
-- power on the side to which its exponent takes it. The exponents are A + 2 and A, so that at −1 and −2 they differ in sign or one of them is 0.
use mathlib.Core.Path.{◌≡◌, subst}
use Prim.Native.Nat.{ℕ, zero, suc, ◌+◌, ◌*◌, ◌^◌, ◌<◌}
use native.Mathlib.Omega.{arith}
use Rattle.std.proofs.lemmas.Int.{ints}
use lib.IntN.{ℤ, pos, negsuc, ◌+ℤ◌}
use Rattle.thresholds.specs.declared.Thresholds.{Thresholds}
use Rattle.thresholds.specs.Lists.{threshold_of}
use Rattle.crossing.specs.Exponents.{above, below}
use Rattle.meter.specs.declared.Report.{Report}
use Rattle.exact.specs.Demands.{count_at, LevelBounds}
use Rattle.exact.specs.Exact.{E}

-- of sq^4096, e^4096 and e'^4096
unfoldable pub Whole : (A : ℤ) (s x y : ℕ) → Type 0
Whole (pos n) s x y = (s < 2 ^ (n + 2) * x) × (2 ^ n * y < 4 * s)
Whole (negsuc zero) s x y = (s < 2 * x) × (y < 4 * 2 * s)
Whole (negsuc (suc zero)) s x y = (s < x) × (y < 4 * 4 * s)
Whole (negsuc (suc (suc n))) s x y = (s * 2 ^ suc n < x) × (y < 4 * 2 ^ suc (suc (suc n)) * s)

two_more : (n : ℕ) → negsuc (suc (suc n)) +ℤ pos 2 ≡ negsuc n
two_more n = grind (arith, ints)

whole : (A : ℤ) (s x y : ℕ) → s * 2 ^ below (A +ℤ pos 2) < 2 ^ above (A +ℤ pos 2) * x → 2 ^ above A * y < 4 * 2 ^ below A * s → Whole A s x y
unfolding Whole above below
whole (pos n) s x y p l = (omega (arith, p), omega (arith, l))
whole (negsuc zero) s x y p l = (omega (arith, p), omega (arith, l))
whole (negsuc (suc zero)) s x y p l = (omega (arith, p), omega (arith, l))
whole (negsuc (suc (suc n))) s x y p l =
    let p' : s * 2 ^ suc n < 2 ^ 0 * x = subst (λ (z : ℤ). s * 2 ^ below z < 2 ^ above z * x) (two_more n) p in
    let l' : 2 ^ 0 * y < 4 * 2 ^ suc (suc (suc n)) * s = l in
    (omega (arith, p'), omega (arith, l'))

pub at_sign : (t : Thresholds) (M : ℤ) (r : Report) (e : E) (D : ℕ) → LevelBounds t M r e D
    → Whole r.levels.active.0 (e.sq ^ 4096) (count_at e (threshold_of t r.levels.lower) ^ 4096) (count_at e (threshold_of t r.levels.upper + D) ^ 4096)
at_sign t M r e D b = whole r.levels.active.0 _ _ _ b.plus_two b.less_two
