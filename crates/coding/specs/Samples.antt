-- Samples in bytes, two bytes each: METHOD.md, "Sample blocks" and "Making a block".
use Rattle.std.specs.Prelude.{cond, List, [], ◌∷◌, ◌++◌, ℕ, zero, suc, ◌+◌, ◌-◌, ◌/◌, ◌^◌, min, ltb, ℤ, pos, neg_ℤ, nat_abs, length, drop}
use Rattle.std.specs.Int.Signed.{lt_z}
use Rattle.coding.specs.Numbers.{number_at, bytes_of}

-- two's complement of 16 bits: the sample of a word, and the word of a sample
unfoldable pub signed : ℕ → ℤ
signed w = cond (ltb w (2 ^ 15)) (pos w) (neg_ℤ (pos (2 ^ 16 - w)))

unfoldable pub word_of : ℤ → ℕ
word_of x = cond (lt_z x (pos 0)) (2 ^ 16 - nat_abs x) (nat_abs x)

-- the samples in the bytes of b from at on, as many as k says
unfoldable pub samples_at : List ℕ → ℕ → ℕ → List ℤ
samples_at b at zero = []
samples_at b at (suc k) = signed (number_at b at 2) ∷ samples_at b (at + 2) k

-- the bytes of samples
unfoldable pub bytes_of_samples : List ℤ → List ℕ
bytes_of_samples [] = []
bytes_of_samples (x ∷ xs) = bytes_of 2 (word_of x) ++ bytes_of_samples xs

-- a buffer xs once the samples in b stand in its first places, as far as both go; what it held past them stays
unfoldable pub decoded_into : List ℕ → List ℤ → List ℤ
decoded_into b xs = let k = min (length b / 2) (length xs) in samples_at b 0 k ++ drop k xs
