-- Bytes put down are read again, and bytes read are put down again: a number's and samples'. Each law is about what follows a place in a list.
use mathlib.Core.Bool.{Bool, true, false, cond}
use mathlib.Core.List.{List, [], ◌∷◌, ◌++◌, append_assoc}
use mathlib.Core.Path.{◌≡◌, refl, sym, ap, ap₂, ◌∙◌, subst}
use Prim.Native.Nat.{ℕ, zero, suc, ◌+◌, ◌-◌, ◌*◌, ◌/◌, ◌%◌, ◌^◌, ◌≤◌, ◌<◌}
use native.Mathlib.Nat.{add-zero}
use native.Mathlib.Numerals.{add-one}
use native.Mathlib.Omega.{arith}
use borrow.Author.Tests.{lt-ltb, le-ltb}
use lib.Dec.{ltb}
use lib.IntN.{ℤ, pos, negsuc, neg_ℤ}
use lib.ListN.{length, get_or, drop, length-append}
use lib.Seq.{drop-cons, get_or-drop, drop-drop, drop_at}
use mir.Syntax.{w16}
use mir.Val.{SFits, to_z, of_z}
use mir.Facts.{to_z-of_z}
use Rattle.coding.specs.Numbers.{number_at, bytes_of}
use Rattle.coding.specs.Samples.{signed, word_of, samples_at, bytes_of_samples}
use Rattle.coding.specs.Typed.{AllSamples, AllBytes}

-- ---- what follows a place

-- the first byte of it, and what follows that
pub first_is : (b : List ℕ) (at y : ℕ) (r : List ℕ) → drop at b ≡ y ∷ r → get_or b at 0 ≡ y
first_is b at y r e = ap (λ (k : ℕ). get_or b k 0) (sym (add-zero at)) ∙ sym (get_or-drop at b 0 0) ∙ ap (λ (l : List ℕ). get_or l 0 0) e

pub rest_is : (b : List ℕ) (at n : ℕ) (p r : List ℕ) → drop at b ≡ p ++ r → length p ≡ n → drop (at + n) b ≡ r
rest_is b at n p r e l = sym (drop-drop n at b) ∙ ap (drop n) e ∙ drop_at p r n l

-- ---- a number

pub bytes_length : (size x : ℕ) → length (bytes_of size x) ≡ size
unfolding bytes_of
bytes_length zero x = refl
bytes_length (suc size) x = ap suc (bytes_length size (x / 256))

pub read_number : (b : List ℕ) (size x at : ℕ) (r : List ℕ) → x < 256 ^ size → drop at b ≡ bytes_of size x ++ r → number_at b at size ≡ x
unfolding number_at bytes_of
read_number b zero x at r h e = omega arith
read_number b (suc size) x at r h e =
    let low = first_is b at (x % 256) (bytes_of size (x / 256) ++ r) e in
    let high = read_number b size (x / 256) (at + 1) r (omega arith) (rest_is b at 1 (x % 256 ∷ []) (bytes_of size (x / 256) ++ r) e refl) in
    omega (arith, low, high)

byte_small : (b : List ℕ) (i : ℕ) → AllBytes b → get_or b i 0 < 256
unfolding AllBytes
byte_small [] i h = omega arith
byte_small (x ∷ xs) zero h = h.0
byte_small (x ∷ xs) (suc i) h = byte_small xs i h.1

pub again_number : (b : List ℕ) (size at : ℕ) → AllBytes b → at + size ≤ length b → bytes_of size (number_at b at size) ++ drop (at + size) b ≡ drop at b
unfolding number_at bytes_of
again_number b zero at a h = ap (λ (k : ℕ). drop k b) (add-zero at)
again_number b (suc size) at a h =
    let x = get_or b at 0 in
    let m = number_at b (at + 1) size in
    let small = byte_small b at a in
    let low : (x + 256 * m) % 256 ≡ x = omega arith in
    let high : (x + 256 * m) / 256 ≡ m = omega arith in
    let next : at + suc size ≡ at + 1 + size = omega arith in
    ap₂ ◌∷◌ low (ap₂ (λ (y k : ℕ). bytes_of size y ++ drop k b) high next ∙ again_number b size (at + 1) a (omega arith) ∙ ap (λ (k : ℕ). drop k b) (add-one at))
    ∙ sym (drop-cons b at 0 (omega arith))

number_small : (b : List ℕ) (at : ℕ) → AllBytes b → number_at b at 2 < 2 ^ 16
unfolding number_at
number_small b at a = omega (arith, byte_small b at a, byte_small b (at + 1) a)

-- ---- a sample

-- the word of a sample, as the library's cast has it
pub word_cast : (x : ℤ) → SFits w16 x → of_z w16 (to_z w16 (of_z w16 x)) ≡ word_of x
unfolding word_of
word_cast (pos n) f = ap (of_z w16) (to_z-of_z {w = w16} f) ∙ sym (simp (le-ltb n 0 (omega arith)))
word_cast (negsuc n) f = ap (of_z w16) (to_z-of_z {w = w16} f)

pub word_small : (x : ℤ) → SFits w16 x → word_of x < 2 ^ 16
unfolding word_of
word_small (pos n) f = subst (λ (t : Bool). cond t (2 ^ 16 - n) n < 2 ^ 16) (sym (le-ltb n 0 (omega arith))) (omega (arith, f.sfits))
word_small (negsuc n) f = omega (arith, f.sfits)

signed_word : (x : ℤ) → SFits w16 x → signed (word_of x) ≡ x
unfolding signed word_of
signed_word (pos n) f =
    ap (λ (t : Bool). let w = cond t (2 ^ 16 - n) n in cond (ltb w (2 ^ 15)) (pos w) (neg_ℤ (pos (2 ^ 16 - w)))) (le-ltb n 0 (omega arith))
    ∙ ap (λ (t : Bool). cond t (pos n) (neg_ℤ (pos (2 ^ 16 - n)))) (lt-ltb n (2 ^ 15) f.sfits)
signed_word (negsuc n) f =
    let w = 2 ^ 16 - suc n in
    let e : 2 ^ 16 - w ≡ suc n = omega (arith, f.sfits) in
    ap (λ (t : Bool). cond t (pos w) (neg_ℤ (pos (2 ^ 16 - w)))) (le-ltb w (2 ^ 15) (omega (arith, f.sfits))) ∙ ap (λ (k : ℕ). neg_ℤ (pos k)) e

-- the words of the two halves
upper_word : (w : ℕ) → word_of (pos w) ≡ w
unfolding word_of
upper_word w = ap (λ (t : Bool). cond t (2 ^ 16 - w) w) (le-ltb w 0 (omega arith))

lower_word : (k : ℕ) → 0 < k → word_of (neg_ℤ (pos k)) ≡ 2 ^ 16 - k
unfolding word_of
lower_word zero p = absurd (omega arith)
lower_word (suc k) p = refl

word_signed : (w : ℕ) → w < 2 ^ 16 → word_of (signed w) ≡ w
unfolding signed
word_signed w h = go (ltb w (2 ^ 15)) refl
  where
    go : (t : Bool) → ltb w (2 ^ 15) ≡ t → word_of (cond t (pos w) (neg_ℤ (pos (2 ^ 16 - w)))) ≡ w
    go true e = upper_word w
    go false e = lower_word (2 ^ 16 - w) (omega arith) ∙ omega arith

-- ---- samples

pub samples_bytes_length : (xs : List ℤ) → length (bytes_of_samples xs) ≡ 2 * length xs
unfolding bytes_of_samples
samples_bytes_length [] = refl
samples_bytes_length (x ∷ xs) =
    length-append (bytes_of 2 (word_of x)) (bytes_of_samples xs) ∙ omega (arith, bytes_length 2 (word_of x), samples_bytes_length xs)

pub read_samples : (b : List ℕ) (xs : List ℤ) (at : ℕ) (r : List ℕ) → AllSamples xs → drop at b ≡ bytes_of_samples xs ++ r → samples_at b at (length xs) ≡ xs
unfolding samples_at bytes_of_samples AllSamples
read_samples b [] at r a e = refl
read_samples b (x ∷ xs) at r a e =
    let w = bytes_of 2 (word_of x) in
    let e' : drop at b ≡ w ++ (bytes_of_samples xs ++ r) = e ∙ append_assoc w (bytes_of_samples xs) r in
    ap₂ ◌∷◌
    (ap signed (read_number b 2 (word_of x) at (bytes_of_samples xs ++ r) (word_small x a.0) e') ∙ signed_word x a.0)
    (read_samples b xs (at + 2) r a.1 (rest_is b at 2 w (bytes_of_samples xs ++ r) e' (bytes_length 2 (word_of x))))

pub again_samples : (b : List ℕ) (k at : ℕ) → AllBytes b → at + 2 * k ≤ length b → bytes_of_samples (samples_at b at k) ++ drop (at + 2 * k) b ≡ drop at b
unfolding samples_at bytes_of_samples
again_samples b zero at a h = ap (λ (n : ℕ). drop n b) (add-zero at)
again_samples b (suc k) at a h =
    let w = bytes_of 2 (number_at b at 2) in
    let xs = samples_at b (at + 2) k in
    let next : at + 2 * suc k ≡ at + 2 + 2 * k = omega arith in
    ap₂ (λ (v n : ℕ). bytes_of 2 v ++ bytes_of_samples xs ++ drop n b) (word_signed (number_at b at 2) (number_small b at a)) next
    ∙ append_assoc w (bytes_of_samples xs) (drop (at + 2 + 2 * k) b)
    ∙ ap (λ (r : List ℕ). w ++ r) (again_samples b k (at + 2) a (omega arith))
    ∙ again_number b 2 at a (omega arith)
