-- A counter as the code tests it, against the one before alone.
use Rattle.std.proofs.Common.{true, false, ltb, ◌≡◌, ℕ, zero, suc, ◌≤◌, ◌<◌, get_or, arith}
use mathlib.Core.Bool.{or-true}
use borrow.Author.Tests.{lt-ltb, le-ltb}
use Rattle.level.specs.Types.{activity}
use Rattle.sample.specs.declared.State.{State}
use Rattle.possible.proofs.Below.{after_first}
use Rattle.possible.specs.Impossible.{any_of, long_hangover, large_count, rising_count, falling_hangover, impossible_counter}

-- the count and the hangover that the counter at j is held to
unfoldable pub count_before : State → ℕ → ℕ
count_before m zero = m.sums.n.0
count_before m (suc j) = activity m.a j

unfoldable pub hangover_before : State → ℕ → ℕ
hangover_before m zero = 0
hangover_before m (suc j) = get_or m.h j 0

rises : (m : State) (j : ℕ) → rising_count m (suc j) ≡ ltb (activity m.a j) (activity m.a (suc j))
unfolding rising_count
rises m j = after_first j (λ i. ltb (activity m.a i) (activity m.a (suc j)))

falls : (m : State) (j : ℕ) → falling_hangover m (suc j) ≡ ltb (get_or m.h (suc j) 0) (get_or m.h j 0)
unfolding falling_hangover
falls m j = after_first j (λ i. ltb (get_or m.h (suc j) 0) (get_or m.h i 0))

pub too_long : (I : ℕ) (m : State) (j : ℕ) → I < get_or m.h j 0 → impossible_counter I m j ≡ true
unfolding impossible_counter any_of long_hangover
too_long I m j l = simp (lt-ltb I (get_or m.h j 0) l)

pub too_many : (I : ℕ) (m : State) (j : ℕ) → count_before m j < activity m.a j → impossible_counter I m j ≡ true
unfolding impossible_counter any_of large_count count_before
too_many I m zero l = simp (lt-ltb m.sums.n.0 (activity m.a 0) l, or-true)
too_many I m (suc j) l = simp (rises m j, lt-ltb (activity m.a j) (activity m.a (suc j)) l, or-true)

pub too_short : (I : ℕ) (m : State) (j : ℕ) → get_or m.h j 0 < hangover_before m j → impossible_counter I m j ≡ true
unfolding impossible_counter any_of hangover_before
too_short I m zero l = absurd (omega arith)
too_short I m (suc j) l = simp (falls m j, lt-ltb (get_or m.h (suc j) 0) (get_or m.h j 0) l, or-true)

pub possible : (I : ℕ) (m : State) (j : ℕ) → get_or m.h j 0 ≤ I → activity m.a j ≤ count_before m j → hangover_before m j ≤ get_or m.h j 0 → activity m.a j ≤ m.sums.n.0
    → impossible_counter I m j ≡ false
unfolding impossible_counter any_of long_hangover large_count rising_count falling_hangover count_before hangover_before
possible I m zero l r f k = simp (le-ltb I (get_or m.h 0 0) l, le-ltb m.sums.n.0 (activity m.a 0) r)
possible I m (suc j) l r f k =
    simp (
      rises m j,
      falls m j,
      le-ltb I (get_or m.h (suc j) 0) l,
      le-ltb m.sums.n.0 (activity m.a (suc j)) k,
      le-ltb (activity m.a j) (activity m.a (suc j)) r,
      le-ltb (get_or m.h (suc j) 0) (get_or m.h j 0) f,
    )
