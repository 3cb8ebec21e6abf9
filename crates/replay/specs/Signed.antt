-- Two's complement of 64 bits, as a meter's sum stands in a record.
use Rattle.std.specs.Prelude.{cond, ℕ, ◌-◌, ◌^◌, ltb, ℤ, pos, neg_ℤ}

unfoldable pub signed : ℕ → ℤ
signed w = cond (ltb w (2 ^ 63)) (pos w) (neg_ℤ (pos (2 ^ 64 - w)))
