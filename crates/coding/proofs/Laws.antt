-- What the crates above know of samples in bytes: how many there are, that they fit, and what a buffer holds that they were put into; and what
-- `AllBytes` and `AllSamples` say, place by place.
use mathlib.Core.Bool.{Bool, true, false, cond}
use mathlib.Core.List.{List, [], ◌∷◌, ◌++◌}
use mathlib.Core.Logic.{◌↔◌}
use mathlib.Core.Path.{◌≡◌, refl, ap, ◌∙◌}
use Prim.Native.Nat.{ℕ, zero, suc, ◌+◌, ◌-◌, ◌/◌, ◌^◌, ◌≤◌, ◌<◌, min}
use native.Mathlib.Omega.{arith}
use borrow.Author.Tests.{ltb-true, ltb-false, le-leb, leb-true}
use lib.Dec.{ltb}
use lib.IntN.{ℤ, pos, negsuc, neg_ℤ}
use mir.Syntax.{w16}
use mir.Val.{SFits}
use lib.Signed.{le_z}
use lib.ListN.{length, get_or, take, drop, length-drop, length-append}
use lib.Seq.{take_at}
use Rattle.coding.specs.Samples.{signed, samples_at, decoded_into}
use Rattle.coding.specs.Typed.{AllSamples, AllBytes}

-- as many as were asked for
pub samples_at_length : (b : List ℕ) (at k : ℕ) → length (samples_at b at k) ≡ k
unfolding samples_at
samples_at_length b at zero = refl
samples_at_length b at (suc k) = ap suc (samples_at_length b (at + 2) k)

-- ---- a buffer that samples were put into

-- keeps its length
pub decoded_length : (b : List ℕ) (xs : List ℤ) → length (decoded_into b xs) ≡ length xs
unfolding decoded_into
decoded_length b xs =
    let k = min (length b / 2) (length xs) in
    length-append (samples_at b 0 k) (drop k xs) ∙ omega (arith, samples_at_length b 0 k, length-drop k xs)

-- and where all samples found room, they are its first
pub decoded_first : (b : List ℕ) (xs : List ℤ) → length b / 2 ≤ length xs → take (length b / 2) (decoded_into b xs) ≡ samples_at b 0 (length b / 2)
unfolding decoded_into
decoded_first b xs h =
    let e : min (length b / 2) (length xs) ≡ length b / 2 = omega arith in
    ap (λ (k : ℕ). take (length b / 2) (samples_at b 0 k ++ drop k xs)) e
    ∙ take_at (samples_at b 0 (length b / 2)) (drop (length b / 2) xs) (length b / 2) (samples_at_length b 0 (length b / 2))

-- a sample is a signed 16-bit number
pub signed_fits : (w : ℕ) → SFits w16 (signed w)
unfolding signed
signed_fits w = go (ltb w (2 ^ 15)) refl
  where
    negative : (n : ℕ) → n ≤ 2 ^ 15 → SFits w16 (neg_ℤ (pos n))
    negative zero h = record { sfits = omega arith }
    negative (suc n) h = record { sfits = omega arith }

    go : (t : Bool) → ltb w (2 ^ 15) ≡ t → SFits w16 (cond t (pos w) (neg_ℤ (pos (2 ^ 16 - w))))
    go true e = record { sfits = omega (arith, ltb-true w (2 ^ 15) e) }
    go false e = negative (2 ^ 16 - w) (omega (arith, ltb-false w (2 ^ 15) e))

-- ---- what types say of lists is said of each place

each_byte : (b : List ℕ) → AllBytes b → (i : ℕ) → i < length b → get_or b i 0 < 256
unfolding AllBytes
each_byte [] a i h = absurd (omega arith)
each_byte (x ∷ xs) a zero h = a.0
each_byte (x ∷ xs) a (suc i) h = each_byte xs a.1 i (omega arith)

every_byte : (b : List ℕ) → ((i : ℕ) → i < length b → get_or b i 0 < 256) → AllBytes b
unfolding AllBytes
every_byte [] f = tt
every_byte (x ∷ xs) f = (f 0 (omega arith), every_byte xs (λ i h. f (suc i) (omega arith)))

pub all_bytes : (b : List ℕ) → AllBytes b ↔ ((i : ℕ) → i < length b → get_or b i 0 < 256)
all_bytes b = (each_byte b, every_byte b)

-- from −32768 to 32767
abbrev SampleValue : ℤ → Type 0
SampleValue x = (le_z (negsuc 32767) x ≡ true) × (le_z x (pos 32767) ≡ true)

fits_value : (x : ℤ) → SFits w16 x → SampleValue x
fits_value (pos n) f = (refl, le-leb n 32767 (omega (arith, f.sfits)))
fits_value (negsuc n) f = (le-leb n 32767 (omega (arith, f.sfits)), refl)

value_fits : (x : ℤ) → SampleValue x → SFits w16 x
value_fits (pos n) v = record { sfits = omega (arith, leb-true n 32767 v.1) }
value_fits (negsuc n) v = record { sfits = omega (arith, leb-true n 32767 v.0) }

each_sample : (xs : List ℤ) → AllSamples xs → (i : ℕ) → i < length xs → SampleValue (get_or xs i (pos 0))
unfolding AllSamples
each_sample [] a i h = absurd (omega arith)
each_sample (x ∷ xs) a zero h = fits_value x a.0
each_sample (x ∷ xs) a (suc i) h = each_sample xs a.1 i (omega arith)

every_sample : (xs : List ℤ) → ((i : ℕ) → i < length xs → SampleValue (get_or xs i (pos 0))) → AllSamples xs
unfolding AllSamples
every_sample [] f = tt
every_sample (x ∷ xs) f = (value_fits x (f 0 (omega arith)), every_sample xs (λ i h. f (suc i) (omega arith)))

pub all_samples : (xs : List ℤ) → AllSamples xs ↔ ((i : ℕ) → i < length xs → SampleValue (get_or xs i (pos 0)))
all_samples xs = (each_sample xs, every_sample xs)
