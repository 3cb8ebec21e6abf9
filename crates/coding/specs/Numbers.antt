-- Numbers in bytes, little-endian: METHOD.md, "Sample blocks" and "Making a block". What lies past the end of a list of bytes reads as 0.
use Rattle.std.specs.Prelude.{List, [], ◌∷◌, ℕ, zero, suc, ◌+◌, ◌*◌, ◌/◌, ◌%◌, get_or}

-- the number in the bytes of b from at on, as many as size says, little-endian
unfoldable pub number_at : List ℕ → ℕ → ℕ → ℕ
number_at b at zero = 0
number_at b at (suc size) = get_or b at 0 + 256 * number_at b (at + 1) size

-- the bytes of x, as many as size says, little-endian; what does not fit them is dropped
unfoldable pub bytes_of : (size x : ℕ) → List ℕ
bytes_of zero x = []
bytes_of (suc size) x = x % 256 ∷ bytes_of size (x / 256)
