-- Count and hangover at one threshold, after a sample: METHOD.md, "One sample". `on` says whether Q is at or above the threshold.
use Rattle.std.specs.Prelude.{Bool, cond, ℕ, ◌+◌, ltb}

unfoldable pub counted : (I : ℕ) (on : Bool) (a h : ℕ) → ℕ
counted I on a h = cond on (a + 1) (cond (ltb h I) (a + 1) a)

unfoldable pub hung : (I : ℕ) (on : Bool) (h : ℕ) → ℕ
hung I on h = cond on 0 (cond (ltb h I) (h + 1) h)
