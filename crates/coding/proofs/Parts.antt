-- Bytes into a buffer, one part after another, and the loops that put them there, a turn each.
use mathlib.Core.List.{List, [], ◌∷◌, ◌++◌, append-nil, append_assoc}
use mathlib.Core.Path.{◌≡◌, refl, sym, ap, ap₂, ◌∙◌}
use Prim.Native.Nat.{ℕ, suc, ◌+◌, ◌-◌, ◌/◌, ◌%◌, ◌≤◌, ◌<◌, min}
use native.Mathlib.Nat.{add-zero}
use native.Mathlib.Numerals.{add-one}
use native.Mathlib.Omega.{arith}
use lib.IntN.{ℤ, pos}
use lib.ListN.{length, get_or, take, drop, set, replicate, length-take, length-drop, drop_of_length-le}
use lib.Seq.{sets, sets-eq, set_out, length-sets, drop-cons}
use borrow.Rule.Slice.PartMut.{put_mid}
use Rattle.std.proofs.lemmas.List.Edits.{paste_all}
use Rattle.std.proofs.lemmas.List.{length-replicate, replicate-append-replicate}
use Rattle.std.proofs.lemmas.Slice.{put_mid-paste}
use Rattle.coding.specs.Numbers.{bytes_of}
use Rattle.coding.specs.Samples.{word_of, bytes_of_samples}
use Rattle.coding.proofs.Bytes.{bytes_length}

-- a part behind another is the two in one
pub sets_append : (l : List ℕ) (at : ℕ) (p q : List ℕ) → sets (sets l at p) (at + length p) q ≡ sets l at (p ++ q)
sets_append l at [] q = ap (λ (k : ℕ). sets l k q) (add-zero at)
sets_append l at (x ∷ p) q =
    let next : at + suc (length p) ≡ suc at + length p = omega arith in
    ap (λ (k : ℕ). sets (sets (set l at x) (suc at) p) k q) next ∙ sets_append (set l at x) (suc at) p q

-- as the code meets them, the second from where the first ends
pub behind : (l a b p q : List ℕ) (at k : ℕ) → at + length p ≡ k → a ≡ sets l at p → b ≡ sets a k q → b ≡ sets l at (p ++ q)
behind l a b p q at k e f g = g ∙ ap₂ (λ (x : List ℕ) (i : ℕ). sets x i q) f (sym e) ∙ sets_append l at p q

-- all of a buffer
pub sets_all : (l p : List ℕ) → length p ≡ length l → sets l 0 p ≡ p
sets_all l p e = sets-eq p l 0 (omega arith) ∙ ap (λ (r : List ℕ). p ++ r) (drop_of_length-le l {i = 0 + length p} (omega arith)) ∙ append-nil p

-- nothing is put past the end; and where a part is left at its own end or at the buffer's, nothing more is to be put
pub sets_out : (l vs : List ℕ) (i : ℕ) → length l ≤ i → sets l i vs ≡ l
sets_out l [] i h = refl
sets_out l (v ∷ vs) i h = ap (λ (m : List ℕ). sets m (suc i) vs) (set_out l i v h) ∙ sets_out l vs (suc i) (omega arith)

pub left_off : (l vs : List ℕ) (at end : ℕ) → length vs ≡ end - at → min end (length l) ≤ at → sets l at vs ≡ l
left_off l [] at end e h = refl
left_off l (v ∷ vs) at end e h = sets_out l (v ∷ vs) at (omega arith)

-- ---- a number: what is left of it, from the place that is reached

pub number_turn : (l : List ℕ) (place end rest : ℕ) → place < end
    → sets (set l place (rest % 256)) (place + 1) (bytes_of (end - (place + 1)) (rest / 256)) ≡ sets l place (bytes_of (end - place) rest)
unfolding bytes_of
number_turn l place end rest h =
    let m = end - (place + 1) in
    let e : end - place ≡ suc m = omega arith in
    ap (λ (k : ℕ). sets (set l place (rest % 256)) k (bytes_of m (rest / 256))) (add-one place)
    ∙ sym (ap (λ (k : ℕ). sets l place (bytes_of k rest)) e)

pub number_end : (l : List ℕ) (place end rest : ℕ) → min end (length l) ≤ place → sets l place (bytes_of (end - place) rest) ≡ l
number_end l place end rest h = left_off l (bytes_of (end - place) rest) place end (bytes_length (end - place) rest) h

-- ---- zeros

pub zeros_end : (l : List ℕ) (at end : ℕ) → min end (length l) ≤ at → l ≡ sets l at (replicate (end - at) 0)
zeros_end l at end h = sym (left_off l (replicate (end - at) 0) at end (length-replicate (end - at) 0) h)

-- those up to the end of the buffer are all that are put down
zeros_more : (l : List ℕ) (at k end : ℕ) → at + k ≤ end → min end (length l) ≤ at + k → sets l at (replicate k 0) ≡ sets l at (replicate (end - at) 0)
zeros_more l at k end h m =
    let front : List ℕ = replicate k 0 in
    let rest = end - (at + k) in
    let whole : k + rest ≡ end - at = omega arith in
    zeros_end (sets l at front) (at + k) end (omega (arith, length-sets l at front))
    ∙ ap (λ (n : ℕ). sets (sets l at front) (at + n) (replicate rest 0)) (sym (length-replicate k 0))
    ∙ sets_append l at front (replicate rest 0)
    ∙ ap (λ (zs : List ℕ). sets l at zs) (replicate-append-replicate k rest 0 ∙ ap (λ (n : ℕ). replicate n 0) whole)

-- so those that the library fills in, up to the place `last`
pub zeros_front : (l ws : List ℕ) (at end last : ℕ) → last ≡ min end (length l) → at < last
    → ws ≡ replicate (length (take (last - at) (drop at l))) 0 → put_mid at (last - at) l ws ≡ sets l at (replicate (end - at) 0)
zeros_front l ws at end last e h f =
    let k = last - at in
    let front : List ℕ = replicate k 0 in
    let long : length front ≡ k = length-replicate k 0 in
    let room : length (take k (drop at l)) ≡ k = length-take k (drop at l) ∙ omega (arith, length-drop at l) in
    put_mid-paste at k l ws front k (f ∙ ap (λ (n : ℕ). replicate n 0) room) refl (sym long)
    ∙ paste_all l at front k (sym long)
    ∙ sym (append_assoc (take at l) front (drop (at + k) l))
    ∙ ap (λ (n : ℕ). take at l ++ front ++ drop (at + n) l) (sym long)
    ∙ sym (sets-eq front l at (omega arith))
    ∙ zeros_more l at k end (omega arith) (omega arith)

-- ---- samples: what is left of them, from the place that is reached

pub samples_turn : (l : List ℕ) (xs : List ℤ) (place j : ℕ) → j < length xs
    → sets (sets l place (bytes_of 2 (word_of (get_or xs j (pos 0))))) (place + 2) (bytes_of_samples (drop (j + 1) xs)) ≡ sets l place (bytes_of_samples (drop j xs))
unfolding bytes_of_samples
samples_turn l xs place j h =
    let w = bytes_of 2 (word_of (get_or xs j (pos 0))) in
    let next : place + 2 ≡ place + length w = ap (λ (k : ℕ). place + k) (sym (bytes_length 2 (word_of (get_or xs j (pos 0))))) in
    ap₂ (λ (k i : ℕ). sets (sets l place w) k (bytes_of_samples (drop i xs))) next (add-one j)
    ∙ sets_append l place w (bytes_of_samples (drop (suc j) xs))
    ∙ ap (λ (ys : List ℤ). sets l place (bytes_of_samples ys)) (sym (drop-cons xs j (pos 0) h))

pub samples_end : (l : List ℕ) (xs : List ℤ) (place j : ℕ) → length xs ≤ j → sets l place (bytes_of_samples (drop j xs)) ≡ l
unfolding bytes_of_samples
samples_end l xs place j h = ap (λ (ys : List ℤ). sets l place (bytes_of_samples ys)) (drop_of_length-le xs h)
