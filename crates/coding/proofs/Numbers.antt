-- Numbers by their bytes.
use mathlib.Core.List.{List}
use mathlib.Core.Path.{◌≡◌, refl, sym, ap, ap₂, ◌∙◌}
use Prim.Native.Nat.{ℕ, zero, suc, ◌+◌, ◌*◌, ◌/◌, ◌≤◌, ◌<◌}
use native.Mathlib.Omega.{arith}
use native.Mathlib.Nat.{add_assoc, add-zero}
use lib.ListN.{length, get_or, take, drop, get_or-eq_default}
use lib.Seq.{get_or-take, get_or-drop, drop-drop}
use mir.Syntax.{w16, w64}
use Rattle.std.specs.Int.{from_le_bytes}
use Rattle.std.specs.Simd.{first_chunks}
use Rattle.coding.specs.Numbers.{number_at}

pub one_byte : (b : List ℕ) (at : ℕ) → get_or b at 0 ≡ number_at b at 1
unfolding number_at
one_byte b at = omega arith

-- a byte past the end
pub no_byte : (b : List ℕ) (at : ℕ) → length b ≤ at → 0 ≡ number_at b at 1
no_byte b at h = sym (get_or-eq_default b 0 h) ∙ one_byte b at

-- the bytes of p are those of b from a place on, as many as size says
abbrev pub IsPart : List ℕ → List ℕ → ℕ → ℕ → Type 0
IsPart p b at size = (k : ℕ) → k < size → get_or p k 0 ≡ get_or b (at + k) 0

-- and so p holds the number that stands there
part : (p b : List ℕ) (at i size : ℕ) → IsPart p b at (i + size) → number_at p i size ≡ number_at b (at + i) size
unfolding number_at
part p b at i zero h = refl
part p b at i (suc size) h =
    ap₂ (λ (x y : ℕ). x + 256 * y) (h i (omega arith))
    (part p b at (i + 1) size (λ k l. h k (omega arith)) ∙ ap (λ (n : ℕ). number_at b n size) (sym (add_assoc at i 1)))

whole : (p b : List ℕ) (at size : ℕ) → IsPart p b at size → number_at p 0 size ≡ number_at b at size
whole p b at size h = part p b at 0 size (λ k l. h k (omega arith)) ∙ ap (λ (n : ℕ). number_at b n size) (add-zero at)

-- as the library reads it
pub two_bytes : (p b : List ℕ) (at : ℕ) → IsPart p b at 2 → from_le_bytes w16 p ≡ number_at b at 2
unfolding number_at
two_bytes p b at h = let e : from_le_bytes w16 p ≡ number_at p 0 2 = omega arith in e ∙ whole p b at 2 h

pub eight_bytes : (p b : List ℕ) (at : ℕ) → IsPart p b at 8 → from_le_bytes w64 p ≡ number_at b at 8
unfolding number_at
eight_bytes p b at h = let e : from_le_bytes w64 p ≡ number_at p 0 8 = omega arith in e ∙ whole p b at 8 h

-- a pair of bytes out of all pairs
pair : (b : List ℕ) (k j : ℕ) (d : List ℕ) → j < k → get_or (first_chunks 2 k b) j d ≡ take 2 (drop (2 * j) b)
pair b zero j d h = absurd (omega arith)
pair b (suc k) zero d h = refl
pair b (suc k) (suc j) d h =
    let e : 2 + 2 * j ≡ 2 * suc j = omega arith in
    pair (drop 2 b) k j d (omega arith) ∙ ap (take 2) (drop-drop (2 * j) 2 b ∙ ap (λ (n : ℕ). drop n b) e)

pub pair_number : (b : List ℕ) (pairs : List (List ℕ)) (n j : ℕ) (d : List ℕ)
    → pairs ≡ first_chunks 2 (length b / 2) b → j < n → n ≤ length b / 2 → number_at (get_or (take n pairs) j d) 0 2 ≡ number_at b (2 * j) 2
pair_number b pairs n j d e h m =
    let at : get_or (take n pairs) j d ≡ take 2 (drop (2 * j) b) =
    get_or-take n pairs j d h ∙ ap (λ (q : List (List ℕ)). get_or q j d) e ∙ pair b (length b / 2) j d (omega arith)
    in
    whole (get_or (take n pairs) j d) b (2 * j) 2 (λ i l. ap (λ (q : List ℕ). get_or q i 0) at ∙ get_or-take 2 (drop (2 * j) b) i 0 l ∙ get_or-drop (2 * j) b i 0)
