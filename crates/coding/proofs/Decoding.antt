-- Two's complement of a word, and the samples of a part one after another.
use mathlib.Core.Bool.{cond}
use mathlib.Core.List.{List, [], ◌∷◌, ◌++◌}
use mathlib.Core.Path.{◌≡◌, sym, ap, ap₂, ◌∙◌, subst}
use Prim.Native.Nat.{ℕ, zero, suc, ◌+◌, ◌-◌, ◌*◌, ◌^◌, ◌<◌}
use native.Mathlib.Omega.{arith}
use native.Mathlib.Nat.{add-zero, zero-add}
use native.Mathlib.Numerals.{add-one}
use lib.Dec.{ltb}
use lib.IntN.{ℤ, pos, neg_ℤ}
use lib.ListN.{length, drop, get_or, set}
use lib.Seq.{drop-cons, append_snoc, set_at}
use mir.Syntax.{w8, w16}
use mir.Facts.{to_z-of_z}
use mir.Val.{Fits, SFits, to_z, of_z}
use Rattle.std.specs.Int.{from_le_bytes}
use Rattle.coding.specs.Numbers.{number_at}
use Rattle.coding.specs.Samples.{signed, samples_at}
use Rattle.coding.proofs.Laws.{samples_at_length, signed_fits}

-- the sample of a word, as the library's cast has it
cast : (w : ℕ) → w < 2 ^ 16 → to_z w16 w ≡ signed w
unfolding signed
cast w h =
    let e : 2 ^ 16 - w ≡ suc (2 ^ 16 - suc w) = omega arith in
    sym (ap (λ (n : ℕ). cond (ltb w (2 ^ 15)) (pos w) (neg_ℤ (pos n))) e)

-- the sample of two bytes
pub sample_of : (p : List ℕ) → ((i : ℕ) → Fits w8 (get_or p i 0)) → to_z w16 (from_le_bytes w16 p) ≡ signed (number_at p 0 2)
unfolding number_at
sample_of p small =
    let e : from_le_bytes w16 p ≡ number_at p 0 2 = omega arith in
    ap (to_z w16) e ∙ cast (number_at p 0 2) (omega (arith, (small 0).fits, (small 1).fits))

-- one sample more
last : (b : List ℕ) (at k : ℕ) → samples_at b at (suc k) ≡ samples_at b at k ++ (signed (number_at b (at + 2 * k) 2) ∷ [])
unfolding samples_at
last b at zero = ap (λ (n : ℕ). signed (number_at b n 2) ∷ []) (sym (add-zero at))
last b at (suc k) =
    let e : at + 2 + 2 * k ≡ at + 2 * suc k = omega arith in
    ap (λ (r : List ℤ). signed (number_at b at 2) ∷ r) (last b (at + 2) k ∙ ap (λ (n : ℕ). samples_at b (at + 2) k ++ (signed (number_at b n 2) ∷ [])) e)

-- and so one more place of a buffer s whose first places hold the samples so far
pub one_more : (b : List ℕ) (xs s : List ℤ) (j : ℕ) (x : ℤ) → s ≡ samples_at b 0 j ++ drop j xs → j < length xs → x ≡ signed (number_at b (2 * j) 2)
    → set s j (to_z w16 (of_z w16 x)) ≡ samples_at b 0 (j + 1) ++ drop (j + 1) xs
one_more b xs s j x f h e =
    ap₂ (λ (l : List ℤ) (y : ℤ). set l j y) (f ∙ ap (λ (r : List ℤ). samples_at b 0 j ++ r) (drop-cons xs j (pos 0) h))
    (to_z-of_z {w = w16} (subst (SFits w16) (sym e) (signed_fits (number_at b (2 * j) 2))))
    ∙ set_at (samples_at b 0 j) (get_or xs j (pos 0)) (drop (suc j) xs) x j (samples_at_length b 0 j)
    ∙ sym (append_snoc (samples_at b 0 j) x (drop (suc j) xs))
    ∙ ap (λ (y : ℤ). samples_at b 0 j ++ (y ∷ []) ++ drop (suc j) xs) (e ∙ ap (λ (n : ℕ). signed (number_at b n 2)) (sym (zero-add (2 * j))))
    ∙ ap (λ (l : List ℤ). l ++ drop (suc j) xs) (sym (last b 0 j))
    ∙ ap (λ (n : ℕ). samples_at b 0 n ++ drop n xs) (sym (add-one j))
