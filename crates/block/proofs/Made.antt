-- What the crates above know of making a block: what was written is read again, by the fields, the check and the host; and a sound block, written
-- afresh, has its own bytes.
use mathlib.Core.Bool.{true, false, cond, not}
use mathlib.Core.List.{List, [], ◌++◌, append_assoc, append-nil}
use mathlib.Core.Path.{◌≡◌, refl, sym, ap, ap₂, ◌∙◌, subst}
use Prim.Native.Nat.{ℕ, zero, suc, ◌+◌, ◌-◌, ◌*◌, ◌%◌, ◌^◌, ◌≤◌, ◌<◌}
use native.Mathlib.Omega.{arith}
use borrow.Author.Tests.{ne_eqb, not-false}
use lib.Dec.{eqb}
use lib.IntN.{ℤ}
use lib.ListN.{length, drop, replicate, length-append, length-replicate, get_or-append, drop_of_length-le}
use lib.Seq.{sets, sets-eq}
use Rattle.level.specs.Types.{most_samples}
use Rattle.rate.specs.Rates.{is_named}
use Rattle.rate.proofs.Laws.{named_small}
use Rattle.refusal.specs.First.{first_of, NoneApplies, rising, Given, Lowest}
use Rattle.refusal.proofs.Laws.{here, past, none, given_lowest}
use Rattle.coding.specs.Numbers.{number_at, bytes_of}
use Rattle.coding.specs.Samples.{samples_at, bytes_of_samples}
use Rattle.coding.specs.Typed.{AllSamples, AllBytes}
use Rattle.coding.proofs.Bytes.{rest_is, bytes_length, read_number, again_number, samples_bytes_length, read_samples, again_samples}
use Rattle.coding.proofs.Parts.{behind, sets_all}
use Rattle.block.specs.Block.{kind, rate_code, count, before, samples_in, word, sum_below, check_sum, weighted_sum}
use Rattle.block.specs.Refusals.{used_unused, zeros, sound, host_check}
use Rattle.block.specs.Written.{contents_of, block_of, unwritable, told_with, write_rules, write_call}
use Rattle.block.proofs.Conditions.{length_off, length_right, check_right, checks_are, kind_right, kind_is, count_right, writable_is, writable_facts, few_writable}
use Rattle.block.proofs.Numbers.{read_zeros, again_zeros}
use Rattle.block.proofs.Laws.{sound_is, is_sound_lem, sound_length, sound_count, samples_length, host_told}

-- ---- the call

-- what 1, 4 and 18 leave
pub record Writable (code before : ℕ) (xs : List ℤ) : Type 0 where
  pub named : is_named code ≡ true
  pub some : 1 ≤ length xs
  pub few : length xs ≤ 248
  pub end : before + length xs ≤ most_samples

pub write_given : (code n : ℕ) (xs : List ℤ) (buffer : List ℕ)
    → Given (write_rules code n xs buffer) (write_call code n xs buffer).number × Lowest (write_rules code n xs buffer) (write_call code n xs buffer).number
unfolding write_call write_rules rising
write_given code n xs buffer = given_lowest (write_rules code n xs buffer) refl

-- what the code finds, one after another: a rule that applies, with the buffer as it was, or none
pub by_rule : (k code n : ℕ) (xs : List ℤ) (buffer : List ℕ) → 0 < k → k ≡ first_of (write_rules code n xs buffer)
    → told_with k buffer ≡ write_call code n xs buffer
unfolding write_call
by_rule k code n xs buffer h e =
    ap (told_with k) (sym (simp (ne_eqb k 0 (λ z. omega arith))))
    ∙ ap (λ (r : ℕ). told_with r (cond (eqb r 0) (block_of code n xs) buffer)) e

module _ (code n : ℕ) (xs : List ℤ) (buffer : List ℕ) where
  pub told_unnamed : is_named code ≡ false → told_with 1 buffer ≡ write_call code n xs buffer
  unfolding write_rules
  told_unnamed u = by_rule 1 code n xs buffer (omega arith) (here _ _ _ (ap not u))

  module _ (named : is_named code ≡ true) where
    pub told_length : (length buffer ≡ 512 → ⊥) → told_with 4 buffer ≡ write_call code n xs buffer
    unfolding write_rules
    told_length l = by_rule 4 code n xs buffer (omega arith) (past _ _ _ (ap not named) (here _ _ _ (length_off buffer l)))

    module _ (l : length buffer ≡ 512) (b : List ℕ) where
      pub told_unwritable : unwritable n (length xs) ≡ true → b ≡ buffer → told_with 18 b ≡ write_call code n xs buffer
      unfolding write_rules
      told_unwritable u e =
          ap (told_with 18) e
          ∙ by_rule 18 code n xs buffer (omega arith) (past _ _ _ (ap not named) (past _ _ _ (length_right buffer l) (here _ _ _ u)))

      pub told_written : unwritable n (length xs) ≡ false → b ≡ block_of code n xs → told_with 0 b ≡ write_call code n xs buffer
      unfolding write_call write_rules
      told_written u e =
          ap₂ (λ (r : ℕ) (block : List ℕ). told_with r (cond (eqb r 0) block buffer)) (past _ _ _ (ap not named) (past _ _ _ (length_right buffer l) (past _ _ _ u none))) e

pub ruleset told = (told_unnamed, told_length, told_unwritable, told_written, few_writable)

-- accepted
pub writable : (code n : ℕ) (xs : List ℤ) (buffer : List ℕ) → (write_call code n xs buffer).number ≡ 0 → Writable code n xs
unfolding write_rules NoneApplies
writable code n xs buffer z =
    let c = (write_given code n xs buffer).0.accepted.0 z in
    let w = writable_facts n (length xs) c.1.1.0 in
    record { named = not-false _ c.0; some = w.0; few = w.1; end = w.2 }

pub written : (code n : ℕ) (xs : List ℤ) (buffer : List ℕ) → (write_call code n xs buffer).number ≡ 0 → (write_call code n xs buffer).buffer ≡ block_of code n xs
unfolding write_call
written code n xs buffer z = ap (λ (r : ℕ). cond (eqb r 0) (block_of code n xs) buffer) z

-- refused
pub unwritten : (code n : ℕ) (xs : List ℤ) (buffer : List ℕ) → 0 < (write_call code n xs buffer).number → (write_call code n xs buffer).buffer ≡ buffer
unfolding write_call
unwritten code n xs buffer h = simp (ne_eqb (first_of (write_rules code n xs buffer)) 0 (λ e. omega arith))

-- ---- the parts of a block, one after another

-- the unused bytes behind k samples
abbrev unused : ℕ → List ℕ
unused k = replicate (508 - (12 + 2 * k)) 0

unused_length : (k : ℕ) → length (unused k) ≡ 508 - (12 + 2 * k)
unused_length k = length-replicate (508 - (12 + 2 * k)) 0

-- the fields before the samples
pub head_length : (code k n : ℕ) → length (bytes_of 1 1 ++ bytes_of 1 code ++ bytes_of 2 k ++ bytes_of 8 n) ≡ 12
head_length code k n =
    let kind = bytes_of 1 1 in
    let rate = bytes_of 1 code in
    let count = bytes_of 2 k in
    length-append (kind ++ rate ++ count) (bytes_of 8 n)
    ∙ omega (arith, length-append (kind ++ rate) count, length-append kind rate, bytes_length 1 1, bytes_length 1 code, bytes_length 2 k, bytes_length 8 n)

-- six parts, and what follows each of them
apart : (k c m f s z r : List ℕ) → k ++ c ++ m ++ f ++ s ++ z ++ r ≡ k ++ (c ++ (m ++ (f ++ (s ++ (z ++ r)))))
apart k c m f s z r =
    append_assoc (k ++ c ++ m ++ f ++ s) z r
    ∙ append_assoc (k ++ c ++ m ++ f) s (z ++ r)
    ∙ append_assoc (k ++ c ++ m) f (s ++ (z ++ r))
    ∙ append_assoc (k ++ c) m (f ++ (s ++ (z ++ r)))
    ∙ append_assoc k c (m ++ (f ++ (s ++ (z ++ r))))

-- bytes 0 to 507
flat : (code n : ℕ) (xs : List ℤ) (r : List ℕ)
    → contents_of code n xs ++ r ≡ bytes_of 1 1 ++ (bytes_of 1 code ++ (bytes_of 2 (length xs) ++ (bytes_of 8 n ++ (bytes_of_samples xs ++ (unused (length xs) ++ r)))))
unfolding contents_of
flat code n xs r = apart (bytes_of 1 1) (bytes_of 1 code) (bytes_of 2 (length xs)) (bytes_of 8 n) (bytes_of_samples xs) (unused (length xs)) r

contents_length : (code n : ℕ) (xs : List ℤ) → length xs ≤ 248 → length (contents_of code n xs) ≡ 508
unfolding contents_of
contents_length code n xs h =
    let head = bytes_of 1 1 ++ bytes_of 1 code ++ bytes_of 2 (length xs) ++ bytes_of 8 n in
    let samples = bytes_of_samples xs in
    length-append (head ++ samples) (unused (length xs))
    ∙ omega (arith, length-append head samples, head_length code (length xs) n, samples_bytes_length xs, unused_length (length xs))

pub block_length : (code n : ℕ) (xs : List ℤ) → length xs ≤ 248 → length (block_of code n xs) ≡ 512
unfolding block_of
block_length code n xs h =
    let b = contents_of code n xs in
    length-append (b ++ bytes_of 2 (check_sum b)) (bytes_of 2 (weighted_sum b))
    ∙ ap (λ (m : ℕ). m + length (bytes_of 2 (weighted_sum b))) (length-append b (bytes_of 2 (check_sum b)))
    ∙ omega (arith, contents_length code n xs h, bytes_length 2 (check_sum b), bytes_length 2 (weighted_sum b))

-- ---- the check words go by bytes 0 to 507 alone

number_front : (c r : List ℕ) (size at : ℕ) → at + size ≤ length c → number_at (c ++ r) at size ≡ number_at c at size
unfolding number_at
number_front c r zero at h = refl
number_front c r (suc size) at h =
    ap₂ (λ (x y : ℕ). x + 256 * y) (get_or-append c r 0 at (omega arith)) (number_front c r size (at + 1) (omega arith))

sum_same : (f g : ℕ → ℕ) (k : ℕ) → ((i : ℕ) → i < k → f i ≡ g i) → sum_below f k ≡ sum_below g k
unfolding sum_below
sum_same f g zero h = refl
sum_same f g (suc k) h = ap₂ (λ (x y : ℕ). x + y) (sum_same f g k (λ i l. h i (omega arith))) (h k (omega arith))

word_front : (c r : List ℕ) → length c ≡ 508 → (i : ℕ) → i < 254 → word (c ++ r) i ≡ word c i
unfolding word
word_front c r e i l = number_front c r 2 (2 * i) (omega arith)

pub sum_front : (c r : List ℕ) → length c ≡ 508 → check_sum (c ++ r) ≡ check_sum c
unfolding check_sum
sum_front c r e = ap (λ (x : ℕ). x % 65535) (sum_same _ _ 254 (word_front c r e))

pub weighted_front : (c r : List ℕ) → length c ≡ 508 → weighted_sum (c ++ r) ≡ weighted_sum c
unfolding weighted_sum
weighted_front c r e = ap (λ (x : ℕ). x % 65535) (sum_same _ _ 254 (λ i l. ap (λ (w : ℕ). (254 - i) * w) (word_front c r e i l)))

sum_small : (b : List ℕ) → check_sum b < 256 ^ 2
unfolding check_sum
sum_small b = omega arith

weighted_small : (b : List ℕ) → weighted_sum b < 256 ^ 2
unfolding weighted_sum
weighted_small b = omega arith

-- ---- bytes 0 to 507, and the check words

words : (code n : ℕ) → List ℤ → List ℕ
words code n xs = let b = contents_of code n xs in bytes_of 2 (check_sum b) ++ bytes_of 2 (weighted_sum b)

parts : (code n : ℕ) (xs : List ℤ) → block_of code n xs ≡ contents_of code n xs ++ words code n xs
unfolding block_of words
parts code n xs = let b = contents_of code n xs in append_assoc b (bytes_of 2 (check_sum b)) (bytes_of 2 (weighted_sum b))

-- ---- a buffer that was filled

-- its first 508 bytes, and then the check words that it has for them
pub filled : (code n : ℕ) (xs : List ℤ) (l a b : List ℕ) → length l ≡ 512 → length xs ≤ 248
    → a ≡ sets l 0 (contents_of code n xs) → b ≡ sets a 508 (bytes_of 2 (check_sum a) ++ bytes_of 2 (weighted_sum a)) → b ≡ block_of code n xs
unfolding words
filled code n xs l a b long few e f =
    let c = contents_of code n xs in
    let at = contents_length code n xs few in
    let end : 0 + length c ≡ 508 = omega arith in
    let front : a ≡ c ++ drop 508 l = e ∙ sets-eq c l 0 (omega arith) ∙ ap (λ (k : ℕ). c ++ drop k l) end in
    let sum : check_sum a ≡ check_sum c = ap check_sum front ∙ sum_front c (drop 508 l) at in
    let weighted : weighted_sum a ≡ weighted_sum c = ap weighted_sum front ∙ weighted_front c (drop 508 l) at in
    behind l a b c (words code n xs) 0 508 end e (f ∙ ap₂ (λ (x y : ℕ). sets a 508 (bytes_of 2 x ++ bytes_of 2 y)) sum weighted)
    ∙ sets_all l (c ++ words code n xs) (sym (ap length (parts code n xs)) ∙ block_length code n xs few ∙ sym long)
    ∙ sym (parts code n xs)

-- ---- what was written, read again

module _ (code n : ℕ) (xs : List ℤ) where
  -- what follows each place at which a part begins
  from_0 : block_of code n xs ≡ bytes_of 1 1 ++ (bytes_of 1 code ++ (bytes_of 2 (length xs) ++ (bytes_of 8 n ++ (bytes_of_samples xs ++ (unused (length xs) ++ words code n xs)))))
  from_0 = parts code n xs ∙ flat code n xs (words code n xs)

  from_1 : drop 1 (block_of code n xs) ≡ bytes_of 1 code ++ (bytes_of 2 (length xs) ++ (bytes_of 8 n ++ (bytes_of_samples xs ++ (unused (length xs) ++ words code n xs))))
  from_1 = rest_is (block_of code n xs) 0 1 (bytes_of 1 1) _ from_0 (bytes_length 1 1)

  from_2 : drop 2 (block_of code n xs) ≡ bytes_of 2 (length xs) ++ (bytes_of 8 n ++ (bytes_of_samples xs ++ (unused (length xs) ++ words code n xs)))
  from_2 = rest_is (block_of code n xs) 1 1 (bytes_of 1 code) _ from_1 (bytes_length 1 code)

  from_4 : drop 4 (block_of code n xs) ≡ bytes_of 8 n ++ (bytes_of_samples xs ++ (unused (length xs) ++ words code n xs))
  from_4 = rest_is (block_of code n xs) 2 2 (bytes_of 2 (length xs)) _ from_2 (bytes_length 2 (length xs))

  from_12 : drop 12 (block_of code n xs) ≡ bytes_of_samples xs ++ (unused (length xs) ++ words code n xs)
  from_12 = rest_is (block_of code n xs) 4 8 (bytes_of 8 n) _ from_4 (bytes_length 8 n)

  from_unused : drop (12 + 2 * length xs) (block_of code n xs) ≡ unused (length xs) ++ words code n xs
  from_unused = rest_is (block_of code n xs) 12 (2 * length xs) (bytes_of_samples xs) _ from_12 (samples_bytes_length xs)

  module _ (w : Writable code n xs) where
    from_508 : drop 508 (block_of code n xs) ≡ words code n xs
    from_508 =
        let at : 12 + 2 * length xs + (508 - (12 + 2 * length xs)) ≡ 508 = omega (arith, w.few) in
        ap (λ (k : ℕ). drop k (block_of code n xs)) (sym at)
        ∙ rest_is (block_of code n xs) (12 + 2 * length xs) (508 - (12 + 2 * length xs)) (unused (length xs)) (words code n xs) from_unused (unused_length (length xs))

    pub kind_written : kind (block_of code n xs) ≡ 1
    unfolding kind
    kind_written = read_number _ 1 1 0 _ (omega arith) from_0

    pub code_written : rate_code (block_of code n xs) ≡ code
    unfolding rate_code
    code_written = read_number _ 1 code 1 _ (named_small code w.named) from_1

    pub count_written : count (block_of code n xs) ≡ length xs
    unfolding count
    count_written = read_number _ 2 (length xs) 2 _ (omega (arith, w.few)) from_2

    pub before_written : before (block_of code n xs) ≡ n
    unfolding before
    before_written = read_number _ 8 n 4 _ (omega (arith, w.end)) from_4

    pub samples_written : AllSamples xs → samples_in (block_of code n xs) ≡ xs
    unfolding samples_in
    samples_written a = ap (samples_at (block_of code n xs) 12) count_written ∙ read_samples _ xs 12 _ a from_12

    -- the stored check words are those that the whole block asks for
    sum_written : number_at (block_of code n xs) 508 2 ≡ check_sum (block_of code n xs)
    unfolding words
    sum_written =
        let b = contents_of code n xs in
        read_number _ 2 (check_sum b) 508 (bytes_of 2 (weighted_sum b)) (sum_small b) from_508
        ∙ sym (ap check_sum (parts code n xs) ∙ sum_front b (words code n xs) (contents_length code n xs w.few))

    weighted_written : number_at (block_of code n xs) 510 2 ≡ weighted_sum (block_of code n xs)
    unfolding words
    weighted_written =
        let b = contents_of code n xs in
        read_number _ 2 (weighted_sum b) 510 [] (weighted_small b)
        (rest_is (block_of code n xs) 508 2 (bytes_of 2 (check_sum b)) (bytes_of 2 (weighted_sum b)) from_508 (bytes_length 2 (check_sum b)) ∙ sym (append-nil (bytes_of 2 (weighted_sum b))))
        ∙ sym (ap weighted_sum (parts code n xs) ∙ weighted_front b (words code n xs) (contents_length code n xs w.few))

    pub sound_written : sound (block_of code n xs) ≡ true
    unfolding used_unused
    sound_written =
        let b = block_of code n xs in
        is_sound_lem b
        (record {
          length_ok = length_right b (block_length code n xs w.few);
          check_ok = check_right b sum_written weighted_written;
          kind_ok = kind_right b kind_written;
          count_ok = count_right b (subst (λ (k : ℕ). 1 ≤ k) (sym count_written) w.some) (subst (λ (k : ℕ). k ≤ 248) (sym count_written) w.few);
          unused_ok = ap (λ (k : ℕ). not (zeros b (12 + 2 * k) (508 - (12 + 2 * k)))) count_written ∙ ap not (read_zeros b _ _ (words code n xs) from_unused);
          named = ap is_named code_written ∙ w.named;
        })

    -- and so the host's check gives 0
    pub host_written : host_check (block_of code n xs) code ≡ 0
    host_written = sym ((host_told (block_of code n xs) code).1 (sound_written, code_written))

-- ---- a sound block, written afresh

module _ (b : List ℕ) (a : AllBytes b) (s : sound b ≡ true) where
  unused_zero : zeros b (12 + 2 * count b) (508 - (12 + 2 * count b)) ≡ true
  unfolding used_unused
  unused_zero = not-false _ (sound_is b s).unused_ok

  -- its own bytes 0 to 507: each part with what follows it in the block, from the last to the first
  own_contents : contents_of (rate_code b) (before b) (samples_in b) ++ drop 508 b ≡ b
  unfolding kind rate_code count before samples_in
  own_contents =
      let k = count b in
      let c = sound_count b s in
      let l = sound_length b s in
      let at : 12 + 2 * k + (508 - (12 + 2 * k)) ≡ 508 = omega (arith, c.1) in
      let zero-bytes = unused k in
      let samples = bytes_of_samples (samples_in b) in
      let from_unused : zero-bytes ++ drop 508 b ≡ drop (12 + 2 * k) b =
      ap (λ (i : ℕ). zero-bytes ++ drop i b) (sym at) ∙ again_zeros b (508 - (12 + 2 * k)) (12 + 2 * k) (omega (arith, l, c.1)) unused_zero
      in
      let from_12 : samples ++ (zero-bytes ++ drop 508 b) ≡ drop 12 b = ap (λ (r : List ℕ). samples ++ r) from_unused ∙ again_samples b k 12 a (omega (arith, l, c.1)) in
      let from_4 = ap (λ (r : List ℕ). bytes_of 8 (before b) ++ r) from_12 ∙ again_number b 8 4 a (omega (arith, l)) in
      let from_2 = ap (λ (r : List ℕ). bytes_of 2 k ++ r) from_4 ∙ again_number b 2 2 a (omega (arith, l)) in
      let from_1 = ap (λ (r : List ℕ). bytes_of 1 (rate_code b) ++ r) from_2 ∙ again_number b 1 1 a (omega (arith, l)) in
      flat (rate_code b) (before b) (samples_in b) (drop 508 b)
      ∙ ap (λ (m : ℕ). bytes_of 1 1 ++ (bytes_of 1 (rate_code b) ++ (bytes_of 2 m ++ (bytes_of 8 (before b) ++ (samples ++ (unused m ++ drop 508 b))))))
      (samples_length b)
      ∙ ap₂ (λ (m : ℕ) (r : List ℕ). bytes_of 1 m ++ r) (sym (kind_is b (sound_is b s).kind_ok)) from_1
      ∙ again_number b 1 0 a (omega (arith, l))

  few : length (samples_in b) ≤ 248
  few = subst (λ (m : ℕ). m ≤ 248) (sym (samples_length b)) (sound_count b s).1

  -- and so its own check words
  pub own_bytes : block_of (rate_code b) (before b) (samples_in b) ≡ b
  unfolding words
  own_bytes =
      let c = contents_of (rate_code b) (before b) (samples_in b) in
      let long = contents_length (rate_code b) (before b) (samples_in b) few in
      let l = sound_length b s in
      let sums = checks_are b (sound_is b s).check_ok in
      let sum : check_sum c ≡ number_at b 508 2 = sym (sum_front c (drop 508 b) long) ∙ ap check_sum own_contents ∙ sym sums.0 in
      let weighted : weighted_sum c ≡ number_at b 510 2 = sym (weighted_front c (drop 508 b) long) ∙ ap weighted_sum own_contents ∙ sym sums.1 in
      let last : bytes_of 2 (number_at b 510 2) ≡ drop 510 b =
      sym (append-nil _) ∙ ap (λ (r : List ℕ). bytes_of 2 (number_at b 510 2) ++ r) (sym (drop_of_length-le b {i = 512} (omega (arith, l)))) ∙ again_number b 2 510 a (omega (arith, l))
      in
      parts (rate_code b) (before b) (samples_in b)
      ∙ ap₂ (λ (x y : ℕ). c ++ (bytes_of 2 x ++ bytes_of 2 y)) sum weighted
      ∙ ap (λ (r : List ℕ). c ++ (bytes_of 2 (number_at b 508 2) ++ r)) last
      ∙ ap (λ (r : List ℕ). c ++ r) (again_number b 2 508 a (omega (arith, l)))
      ∙ own_contents

  -- the call, into any buffer of 512 bytes
  pub afresh : (buffer : List ℕ) → length buffer ≡ 512 → before b + count b ≤ most_samples
      → write_call (rate_code b) (before b) (samples_in b) buffer ≡ record { number = 0; buffer = b }
  afresh buffer l e =
      let c = sound_count b s in
      let w = ap (unwritable (before b)) (samples_length b) ∙ writable_is (before b) (count b) c.0 c.1 e in
      sym (told_written (rate_code b) (before b) (samples_in b) buffer (sound_is b s).named l b w (sym own_bytes))
