-- What a read leaves of what came before it.
use Rattle.std.proofs.Common.{◌≡◌, ℕ, ◌+◌, ◌-◌, ◌^◌, ◌%◌, ◌≤◌, List, ◌++◌, [], Option, sym, ap, subst, ◌∙◌, length, take, drop, slice_range, arith}
use Rattle.std.proofs.KnownBytes.{Consumes-nil, Consumes-trans, Consumes-kept}
use Rattle.std.proofs.Math.Seq.{take-add}
use Rattle.std.proofs.lemmas.List.{drop_at, take-append-le, drop-append-le, length-take-le, length-drop, take-take}
use Rattle.std.proofs.lemmas.List.Edits.{take-paste}
use Rattle.std.proofs.lemmas.Slice.{between_is, take-put_mid_below}
use Rattle.std.specs.Io.{StartsWith}
use Rattle.std.specs.Io.KnownBytes.{Consumes, Keeps}
use Rattle.std.specs.List.{copy_within}
use borrow.Rule.Slice.PartMut.{mid_of, put_mid, same_len_mid}
use Rattle.input.specs.declared.source.Source.{Source}
use Rattle.input.specs.Inner.{Received}
use Rattle.input.specs.Source.{unused_of, place_of}

-- from b on, where a read put ys from e on and n bytes of it count
came_too : (xs ys : List ℕ) (b e n : ℕ) → b ≤ e → e ≤ length xs → n ≤ length ys
    → slice_range (put_mid e (length xs - e) xs ys) b (e + n) ≡ slice_range xs b e ++ take n ys
came_too xs ys b e n p q h =
    let all = put_mid e (length xs - e) xs ys in
    let front : take e all ≡ take e xs = take-put_mid_below e (length xs - e) xs ys e (omega arith) q in
    let rest : take n (drop e all) ≡ take n ys = ap (take n) (drop_at (take e xs) _ e (length-take-le e xs q)) ∙ take-append-le n ys _ h in
    let both : take (e + n) all ≡ take e xs ++ take n ys = take-add e n all ∙ ap (λ l. l ++ take n (drop e all)) front ∙ ap (λ l. take e xs ++ l) rest in
    between_is all b (e + n) ∙ ap (drop b) both
    ∙ drop-append-le b (take e xs) (take n ys) (subst (λ k. b ≤ k) (sym (length-take-le e xs q)) p)
    ∙ ap (λ l. l ++ take n ys) (sym (between_is xs b e))

-- after a read into the part from the end on, which gave n bytes that the reader then no longer has
pub Received-read : {N : ℕ} (s t u : Source N) (a b c : Option (List ℕ)) (ys : List ℕ) (n : ℕ) → Received s t a b → Consumes b c (take n ys)
    → t.end ≤ length t.buffer → length ys ≡ length (mid_of t.end (length t.buffer - t.end) t.buffer) → n ≤ length ys → u.at ≡ t.at → u.end ≡ t.end + n
    → u.buffer ≡ put_mid t.end (length t.buffer - t.end) t.buffer ys
    → (u.read + (2 ^ 64 - u.end)) % 2 ^ 64 ≡ (t.read + (2 ^ 64 - t.end)) % 2 ^ 64 → Received s u a c
Received-read s t u a b c ys n before came inside size fits at end buffer place = record {
  size = ap length buffer ∙ same_len_mid t.end _ t.buffer ys size ∙ before.size;
  at = at ∙ before.at;
  grows = omega (arith, before.grows, end);
  held = ap (take s.end) buffer ∙ take-put_mid_below t.end _ t.buffer ys s.end before.grows inside ∙ before.held;
  place = place ∙ before.place;
  came = subst (Consumes a c) (sym (ap (λ l. slice_range l s.end u.end) buffer ∙ ap (slice_range (put_mid t.end (length t.buffer - t.end) t.buffer ys) s.end) end
      ∙ came_too t.buffer ys s.end t.end n before.grows inside fits)) (Consumes-trans a b c _ _ before.came came);
}

-- after one that failed
pub Received-failed : {N : ℕ} (s t u : Source N) (a b c : Option (List ℕ)) (ys : List ℕ) → Received s t a b → Keeps b c
    → t.end ≤ length t.buffer → length ys ≡ length (mid_of t.end (length t.buffer - t.end) t.buffer) → u.at ≡ t.at → u.end ≡ t.end → u.buffer ≡ put_mid t.end (length t.buffer - t.end) t.buffer ys
    → u.read ≡ t.read → Received s u a c
Received-failed s t u a b c ys before kept inside size at end buffer read =
    Received-read s t u a b c ys 0 before (Consumes-kept b b c [] (Consumes-nil b) kept) inside size (omega arith) at (omega (arith, end)) buffer
    (ap (λ r. (r + (2 ^ 64 - u.end)) % 2 ^ 64) read ∙ ap (λ e. (t.read + (2 ^ 64 - e)) % 2 ^ 64) end)

-- mid is old with its bytes that are not yet used moved to the front
pub record Moved {N : ℕ} (old mid : Source N) : Type 0 where
  pub order : old.at ≤ old.end
  pub inside : old.end ≤ length old.buffer
  pub at : mid.at ≡ 0
  pub end : mid.end ≡ old.end - old.at
  pub buffer : mid.buffer ≡ copy_within old.buffer old.at old.end 0
  pub read : mid.read ≡ old.read

-- what a source shows after reading, of what it showed before, and of the reader's bytes
pub record Gathered {N : ℕ} (old new : Source N) (had has : Option (List ℕ)) : Type 0 where
  pub count : length (unused_of new) ≡ new.end
  pub kept : StartsWith (unused_of new) (unused_of old)
  pub place : place_of new ≡ place_of old
  pub came : Consumes had has (drop (length (unused_of old)) (unused_of new))

-- new is what reading made of mid
module _ {N : ℕ} (old mid new : Source N) (had has : Option (List ℕ)) (moved : Moved old mid) (received : Received mid new had has) (inside : new.end ≤ length new.buffer) where
  old_length : length (unused_of old) ≡ mid.end
  old_length = length-take-le (old.end - old.at) (drop old.at old.buffer) (omega (arith, moved.order, moved.inside, length-drop old.at old.buffer)) ∙ sym moved.end

  new_unused : unused_of new ≡ take new.end new.buffer
  new_unused =
      let none : new.end - 0 ≡ new.end = omega arith in
      ap (λ i. take (new.end - i) (drop i new.buffer)) (received.at ∙ moved.at) ∙ ap (λ k. take k new.buffer) none

  new_length : length (unused_of new) ≡ new.end
  new_length = ap length new_unused ∙ length-take-le new.end new.buffer inside

  front : take mid.end new.buffer ≡ unused_of old
  front =
      let from_0 : old.end - old.at ≡ 0 + (old.end - old.at) = omega arith in
      received.held ∙ ap (λ k. take k mid.buffer) moved.end ∙ ap (take (old.end - old.at)) moved.buffer
      ∙ ap (λ k. take k (copy_within old.buffer old.at old.end 0)) from_0
      ∙ take-paste old.buffer 0 (drop old.at old.buffer) (old.end - old.at) (omega arith) (omega (arith, moved.order, moved.inside, length-drop old.at old.buffer))

  pub gathered : Gathered old new had has
  gathered = record {
    count = new_length;
    kept = ap (λ k. take k (unused_of new)) old_length ∙ ap (take mid.end) new_unused ∙ take-take mid.end new.end new.buffer received.grows ∙ front;
    place = ap (λ k. (new.read + (2 ^ 64 - k)) % 2 ^ 64) new_length ∙ received.place
        ∙ ap (λ r. (r + (2 ^ 64 - mid.end)) % 2 ^ 64) moved.read ∙ ap (λ k. (old.read + (2 ^ 64 - k)) % 2 ^ 64) (sym old_length);
    came = subst (Consumes had has) (between_is new.buffer mid.end new.end ∙ ap (drop mid.end) (sym new_unused) ∙ ap (λ k. drop k (unused_of new)) (sym old_length)) received.came;
  }
