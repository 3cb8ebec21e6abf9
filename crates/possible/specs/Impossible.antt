-- What no measurement could leave in a meter's state: METHOD.md, "Why a call is refused", 2. Each condition under its own name, in the order of
-- testing.
use Rattle.std.specs.Prelude.{Bool, false, ◌&&◌, ◌||◌, List, [], ◌∷◌, ℕ, ◌-◌, ◌*◌, ◌^◌, leb, ltb, nat_abs, get_or}
use Rattle.level.specs.Types.{most_samples, activity, two_words}
use Rattle.sample.specs.declared.State.{State}
use Rattle.sample.specs.declared.Sums.{Sums}

-- whether one of these holds
unfoldable pub any_of : List Bool → Bool
any_of [] = false
any_of (b ∷ rest) = b || any_of rest

-- the bounds: |s| and sq a sample, and P and Q
abbrev pub sum_bound : ℕ
sum_bound = 2 ^ 15

abbrev pub square_bound : ℕ
square_bound = 2 ^ 32

abbrev pub envelope_bound : ℕ
envelope_bound = 2 ^ 40

-- the sums: n > 2^48
unfoldable pub many_samples : Sums → Bool
many_samples m = ltb most_samples m.n.0

-- |s| > n·2^15
unfoldable pub large_sum : Sums → Bool
large_sum m = ltb (m.n.0 * sum_bound) (nat_abs m.s)

-- sq > n·2^32
unfoldable pub large_squares : Sums → Bool
large_squares m = ltb (m.n.0 * square_bound) (two_words m.sq)

-- P or Q > 2^40
unfoldable pub large_p : Sums → Bool
large_p m = ltb envelope_bound m.p

unfoldable pub large_q : Sums → Bool
large_q m = ltb envelope_bound m.q

unfoldable pub impossible_sums : Sums → Bool
impossible_sums m = any_of (many_samples m ∷ large_sum m ∷ large_squares m ∷ large_p m ∷ large_q m ∷ [])

-- the counters at a threshold j: h_j > I
unfoldable pub long_hangover : (I : ℕ) → State → ℕ → Bool
long_hangover I m j = ltb I (get_or m.h j 0)

-- a_j > n
unfoldable pub large_count : State → ℕ → Bool
large_count m j = ltb m.sums.n.0 (activity m.a j)

-- a_j rising with j, from the threshold before to this one, where there is one before
unfoldable pub rising_count : State → ℕ → Bool
rising_count m j = leb 1 j && ltb (activity m.a (j - 1)) (activity m.a j)

-- h_j falling with j
unfoldable pub falling_hangover : State → ℕ → Bool
falling_hangover m j = leb 1 j && ltb (get_or m.h j 0) (get_or m.h (j - 1) 0)

unfoldable pub impossible_counter : (I : ℕ) → State → ℕ → Bool
impossible_counter I m j = any_of (long_hangover I m j ∷ large_count m j ∷ rising_count m j ∷ falling_hangover m j ∷ [])

-- a_j or h_j is not zero, which past the end of the list it must be
unfoldable pub filled_counter : State → ℕ → Bool
filled_counter m j = ltb 0 (activity m.a j) || ltb 0 (get_or m.h j 0)
