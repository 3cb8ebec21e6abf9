-- The blocks of rows, each made of its fields, and two byte for byte: METHOD.md, "Sample blocks". The check words are given, and not worked out here.
use Rattle.std.specs.Prelude.{List, [], ◌∷◌, ◌++◌, ℕ, ◌-◌, ◌*◌, ◌^◌, ℤ, pos, negsuc, length, replicate}
use Rattle.coding.specs.Numbers.{bytes_of}

-- numbers in two bytes each
unfoldable pub pairs : List ℕ → List ℕ
pairs [] = []
pairs (w ∷ ws) = bytes_of 2 w ++ pairs ws

-- the kind, the rate code, the count, the number of samples before, the words from byte 12 on with zeros after them, and the two check words
unfoldable pub block_with : (kind code count before : ℕ) (ws : List ℕ) (sum weighted : ℕ) → List ℕ
block_with kind code count before ws sum weighted =
    (kind ∷ code ∷ [])
    ++ bytes_of 2 count
    ++ bytes_of 8 before
    ++ pairs ws
    ++ replicate (496 - 2 * length ws) 0
    ++ bytes_of 2 sum
    ++ bytes_of 2 weighted

-- the samples 32767, −32768 and −261, and their words
abbrev pub samples_of_three : List ℤ
samples_of_three = pos 32767 ∷ negsuc 32767 ∷ negsuc 260 ∷ []

abbrev three : List ℕ
three = 32767 ∷ 32768 ∷ 65275 ∷ []

-- sound blocks of rate code 1. This one has none before it; its words add up to 2·65535, so that its first check word is 0
unfoldable pub sound_block : List ℕ
sound_block = block_with 1 1 3 0 three 0 34844

-- as many samples as a block holds
unfoldable pub full_block : List ℕ
full_block = block_with 1 1 248 0 (replicate 248 1) 753 27828

-- one sample with 2^48 before it
unfoldable pub end_block : List ℕ
end_block = block_with 1 1 1 (2 ^ 48) (1 ∷ []) 260 493

-- twenty samples −32768 with 40 before them
unfoldable pub twenty : List ℕ
twenty = block_with 1 1 20 40 (replicate 20 32768) 327 17268

-- one sample that ends at 2^48, and as many as a block holds that end there
unfoldable pub last_block : List ℕ
last_block = block_with 1 1 1 (2 ^ 48 - 1) (1 ∷ []) 259 244

unfoldable pub last_full : List ℕ
last_full = block_with 1 1 248 (2 ^ 48 - 248) (replicate 248 1) 506 31119

-- byte for byte: the customer's example, one sample 32767; and, at code 3, samples 258 and −2 with 6618611909121 before them
unfoldable pub example_bytes : List ℕ
example_bytes = (1 ∷ 1 ∷ 1 ∷ replicate 9 0) ++ (255 ∷ 127 ∷ replicate 494 0) ++ (1 ∷ 129 ∷ 127 ∷ 255 ∷ [])

unfoldable pub plain_bytes : List ℕ
plain_bytes =
    (1 ∷ 3 ∷ 2 ∷ 0 ∷ 1 ∷ 2 ∷ 3 ∷ 4 ∷ 5 ∷ 6 ∷ 0 ∷ 0 ∷ [])
    ++ (2 ∷ 1 ∷ 254 ∷ 255 ∷ replicate 492 0)
    ++ (13 ∷ 16 ∷ 207 ∷ 190 ∷ [])

-- a buffer before a block is made in it: bytes of 165
abbrev pub lent : (size : ℕ) → List ℕ
lent size = replicate size 165

-- Faults. 4: three bytes
unfoldable pub three_bytes : List ℕ
three_bytes = 1 ∷ 1 ∷ 1 ∷ []

-- 5: the first check word is another, or 65535 for 0; or the second is another. In all other blocks of 512 bytes both are right
unfoldable pub other_sum : List ℕ
other_sum = block_with 1 1 3 0 three 1 34844

unfoldable pub high_sum : List ℕ
high_sum = block_with 1 1 3 0 three 65535 34844

unfoldable pub other_weighted : List ℕ
other_weighted = block_with 1 1 3 0 three 0 34845

-- 6: kind 2
unfoldable pub other_kind : List ℕ
other_kind = block_with 2 1 3 0 three 1 35098

-- 7 at code 1, and sound: rate codes 2, 4 and 5
unfoldable pub other_code : List ℕ
other_code = block_with 1 2 3 0 three 256 34333

unfoldable pub super_wideband : List ℕ
super_wideband = block_with 1 4 3 0 three 768 33311

unfoldable pub full_band : List ℕ
full_band = block_with 1 5 3 0 three 1024 32800

-- 7 at every named code, and not sound: rate code 6
unfoldable pub unnamed_rate : List ℕ
unnamed_rate = block_with 1 6 3 0 three 1280 32289

-- 8: no samples, or one more than a block holds
unfoldable pub no_count : List ℕ
no_count = block_with 1 1 0 0 [] 257 65278

unfoldable pub high_count : List ℕ
high_count = block_with 1 1 249 0 (replicate 248 1) 754 28081

-- 9: a sample more than the count says, or byte 507
unfoldable pub used_next : List ℕ
used_next = block_with 1 1 2 0 three 65534 34591

unfoldable pub used_last : List ℕ
used_last = block_with 1 1 1 0 ((32767 ∷ replicate 246 0) ++ (256 ∷ [])) 33281 128
