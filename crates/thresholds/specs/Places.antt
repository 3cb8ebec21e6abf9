-- Lists by their places.
use Rattle.std.specs.Prelude.{Bool, false, cond, ◌&&◌, ◌||◌, List, [], ◌∷◌, ℕ, zero, suc, ◌+◌, leb, ltb}

-- f(j), f(j + 1), .., k of them
unfoldable pub list_from : {A : Type 0} → (ℕ → A) → (j k : ℕ) → List A
list_from f j zero = []
list_from f j (suc k) = f j ∷ list_from f (j + 1) k

-- f(j) for each j below k
abbrev pub each : {A : Type 0} → (k : ℕ) → (ℕ → A) → List A
each k f = list_from f 0 k

-- f(j) where j is below k; past that, zero
unfoldable pub up_to : (k : ℕ) → (ℕ → ℕ) → ℕ → ℕ
up_to k f j = cond (ltb j k) (f j) 0

-- whether f holds at some j below k
unfoldable pub some_below : ℕ → (ℕ → Bool) → Bool
some_below zero f = false
some_below (suc k) f = some_below k f || f k

-- whether f holds at some j from k on and below n
unfoldable pub some_from : (k n : ℕ) → (ℕ → Bool) → Bool
some_from k n f = some_below n (λ j. leb k j && f j)
