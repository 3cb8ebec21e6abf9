-- Sample blocks: METHOD.md, "Sample blocks". A block is a list of bytes, of any length: what lies past its end reads as 0.
use Rattle.std.specs.Prelude.{List, ℕ, zero, suc, ◌+◌, ◌-◌, ◌*◌, ◌%◌, ℤ}
use Rattle.coding.specs.Numbers.{number_at}
use Rattle.coding.specs.Samples.{samples_at}

-- the fields
unfoldable pub kind : List ℕ → ℕ
kind b = number_at b 0 1

unfoldable pub rate_code : List ℕ → ℕ
rate_code b = number_at b 1 1

unfoldable pub count : List ℕ → ℕ
count b = number_at b 2 2

unfoldable pub before : List ℕ → ℕ
before b = number_at b 4 8

-- the samples of a block
unfoldable pub samples_in : List ℕ → List ℤ
samples_in b = samples_at b 12 (count b)

-- word w_i of bytes 0 to 507
unfoldable pub word : List ℕ → ℕ → ℕ
word b i = number_at b (2 * i) 2

-- the sum of f(i) for i below k
unfoldable pub sum_below : (ℕ → ℕ) → ℕ → ℕ
sum_below f zero = 0
sum_below f (suc k) = sum_below f k + f k

-- the two check words
unfoldable pub check_sum : List ℕ → ℕ
check_sum b = sum_below (λ i. word b i) 254 % 65535

unfoldable pub weighted_sum : List ℕ → ℕ
weighted_sum b = sum_below (λ i. (254 - i) * word b i) 254 % 65535
