-- Two words: their order, their growth, and the number that they hold.
use Rattle.std.proofs.Common.{◌≡◌, ℕ, ◌+◌, ◌/◌, ◌^◌, ◌<◌, ◌≤◌, Bool, true, false, ltb, arith}
use lib.Pow.{low}
use mir.Val.{bool_byte}
use Rattle.std.specs.Bool.{FalseIff}
use Rattle.std.proofs.lemmas.Bool.Decides.{nat_tests}
use Rattle.std.specs.Bool.{◌==◌}
use Rattle.std.specs.Ordering.{partial_gt}
use Rattle.level.specs.contracts.SquaresPartialOrd.TheImpl.{partial_cmp-value as order}
use Rattle.level.specs.contracts.SquaresPartialEq.TheImpl.{eq-value as equality}
use Rattle.level.specs.declared.Squares.{Squares}
use Rattle.level.specs.Types.{two_words, words, grown}

pub two_of_words : (N : ℕ) → two_words (words N) ≡ N
unfolding words
two_of_words N = omega arith

pub words_of_two : (q : Squares) → q.low < 2 ^ 64 → words (two_words q) ≡ q
unfolding words
words_of_two q l = grind arith

-- ---- growth

-- the low words' sum overflows where it leaves something for the high word, and then it leaves 1
pub carry : (low y : ℕ) (b : Bool) → low < 2 ^ 64 → y < 2 ^ 64 → FalseIff b (low + y < 2 ^ 64) → bool_byte b ≡ (low + y) / 2 ^ 64
carry low y true l h e = omega (arith, e)
carry low y false l h e = omega (arith, e)

-- up to 2^80 the words grow as their number does
pub grown_is : (q : Squares) (y : ℕ) → two_words q ≤ 2 ^ 80 → y < 2 ^ 64 → grown q y ≡ words (two_words q + y)
unfolding grown words
grown_is q y m b = grind arith

-- ---- the derived equality and order are those of the sums

pub is_zero : (q : Squares) → equality.it q (record { high = 0; low = 0 }) ≡ (two_words q == 0)
is_zero q = grind (arith, nat_tests)

pub is_above : (q r : Squares) → q.low < 2 ^ 64 → r.low < 2 ^ 64 → partial_gt order.it q r ≡ ltb (two_words r) (two_words q)
is_above q r h l = grind (arith, nat_tests)
