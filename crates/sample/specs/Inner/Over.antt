-- One counter over samples, and places from one up to another.
use Rattle.std.specs.Prelude.{Bool, ◌&&◌, ℕ, zero, suc, leb, ltb}
use Rattle.sample.specs.Activity.{counted, hung}

-- one counter after d samples on the same side of its threshold
unfoldable pub hangover_over : (I : ℕ) (on : Bool) (d h : ℕ) → ℕ
hangover_over I on zero h = h
hangover_over I on (suc d) h = hung I on (hangover_over I on d h)

unfoldable pub count_over : (I : ℕ) (on : Bool) (d a h : ℕ) → ℕ
count_over I on zero a h = a
count_over I on (suc d) a h = counted I on (count_over I on d a h) (hangover_over I on d h)

-- whether j is from one place up to another
unfoldable pub between : (from to j : ℕ) → Bool
between from to j = leb from j && ltb j to
