-- Each condition of a refusal, from the fact that a test of the code leaves.
use mathlib.Core.Bool.{Bool, true, false, not, ◌&&◌}
use mathlib.Core.List.{List}
use mathlib.Core.Path.{◌≡◌, refl, sym, ap, ap₂, ◌∙◌}
use Prim.Native.Nat.{ℕ, ◌+◌, ◌-◌, ◌*◌, ◌≤◌}
use native.Mathlib.Omega.{arith}
use borrow.Author.Tests.{eq-eqb, ne_eqb, eqb-true, le-leb, lt-leb, leb-true, ltb-true, ltb-false, not-true, not-false}
use lib.Dec.{eqb, ltb, leb}
use lib.ListN.{length, get_or, take, drop}
use Rattle.std.specs.List.{list_all}
use Rattle.level.specs.Types.{most_samples}
use Rattle.refusal.proofs.Laws.{both}
use Rattle.refusal.specs.First.{first_of}
use Rattle.coding.specs.Numbers.{number_at}
use Rattle.block.specs.Block.{kind, rate_code, count, word, check_sum, weighted_sum}
use Rattle.block.specs.Refusals.{wrong_length, wrong_check, wrong_kind, wrong_rate, wrong_count, used_unused, block_rules}
use Rattle.block.specs.Written.{unwritable}
use Rattle.block.proofs.Numbers.{kind_is as kind_read, zeros_are}

not_not : (b : Bool) → b ≡ not (not b)
not_not true = refl
not_not false = refl

module _ (b : List ℕ) where
  pub length_off : (length b ≡ 512 → ⊥) → wrong_length b ≡ true
  unfolding wrong_length
  length_off f = ap not (ne_eqb (length b) 512 f)

  pub length_right : length b ≡ 512 → wrong_length b ≡ false
  unfolding wrong_length
  length_right e = ap not (eq-eqb (length b) 512 e)

  -- the code compares two pairs of words
  pub check_is : (sum weighted : ℕ) → sum ≡ check_sum b → weighted ≡ weighted_sum b
      → eqb (word b 254) sum && eqb (word b 255) weighted ≡ not (wrong_check b)
  unfolding wrong_check word
  check_is sum weighted e f =
      ap₂ (λ (x y : ℕ). eqb (number_at b 508 2) x && eqb (number_at b 510 2) y) e f
      ∙ not_not (eqb (number_at b 508 2) (check_sum b) && eqb (number_at b 510 2) (weighted_sum b))

  pub check_right : number_at b 508 2 ≡ check_sum b → number_at b 510 2 ≡ weighted_sum b → wrong_check b ≡ false
  unfolding wrong_check
  check_right e f = simp (eq-eqb (number_at b 508 2) (check_sum b) e, eq-eqb (number_at b 510 2) (weighted_sum b) f)

  pub checks_are : wrong_check b ≡ false → (number_at b 508 2 ≡ check_sum b) × (number_at b 510 2 ≡ weighted_sum b)
  unfolding wrong_check
  checks_are h = let t = both _ _ (not-false _ h) in (eqb-true _ _ t.0, eqb-true _ _ t.1)

  pub kind_off : (kind b ≡ 1 → ⊥) → wrong_kind b ≡ true
  unfolding wrong_kind
  kind_off f = ap not (ne_eqb (kind b) 1 f)

  pub kind_right : kind b ≡ 1 → wrong_kind b ≡ false
  unfolding wrong_kind
  kind_right e = ap not (eq-eqb (kind b) 1 e)

  pub kind_is : wrong_kind b ≡ false → kind b ≡ 1
  unfolding wrong_kind
  kind_is h = eqb-true _ _ (not-false _ h)

  pub rate_off : (code : ℕ) → (rate_code b ≡ code → ⊥) → wrong_rate b code ≡ true
  unfolding wrong_rate
  rate_off code f = ap not (ne_eqb (rate_code b) code f)

  pub rate_right : (code : ℕ) → rate_code b ≡ code → wrong_rate b code ≡ false
  unfolding wrong_rate
  rate_right code e = ap not (eq-eqb (rate_code b) code e)

  pub count_right : 1 ≤ count b → count b ≤ 248 → wrong_count b ≡ false
  unfolding wrong_count
  count_right l h = simp (le-leb 1 (count b) l, le-leb (count b) 248 h)

-- ---- what a block is told, from what the code finds of it

-- the bytes behind so many samples, as the code tests them
abbrev unused_zero : List ℕ → ℕ → Bool
unused_zero b n = list_all (λ x. eqb x 0) (take (508 - (12 + 2 * n)) (drop (12 + 2 * n) b))

module _ (b : List ℕ) (code : ℕ) where
  pub told_4 : (length b ≡ 512 → ⊥) → 4 ≡ first_of (block_rules b code)
  unfolding block_rules first_of
  told_4 l = sym (simp (length_off b l))

  module _ (l : length b ≡ 512) where
    long : wrong_length b ≡ false
    long = length_right b l

    pub told_5 : not (wrong_check b) ≡ false → 5 ≡ first_of (block_rules b code)
    unfolding block_rules first_of
    told_5 r = sym (simp (long, not-false _ r))

    module _ (r : not (wrong_check b) ≡ true) where
      right : wrong_check b ≡ false
      right = not-true _ r

      pub told_6 : (get_or b 0 0 ≡ 1 → ⊥) → 6 ≡ first_of (block_rules b code)
      unfolding block_rules first_of
      told_6 k = sym (simp (long, right, kind_off b (λ e. k (kind_read b ∙ e))))

      module _ (k : get_or b 0 0 ≡ 1) where
        known : wrong_kind b ≡ false
        known = kind_right b (sym (kind_read b) ∙ k)

        pub told_7 : (rate_code b ≡ code → ⊥) → 7 ≡ first_of (block_rules b code)
        unfolding block_rules first_of
        told_7 c = sym (simp (long, right, known, rate_off b code c))

        module _ (c : rate_code b ≡ code) where
          pub told_8 : leb 1 (word b 1) && leb (word b 1) 248 ≡ false → 8 ≡ first_of (block_rules b code)
          unfolding block_rules first_of word wrong_count count
          told_8 n = sym (simp (long, right, known, rate_right b code c, n))

          module _ (n : leb 1 (word b 1) && leb (word b 1) 248 ≡ true) where
            possible : wrong_count b ≡ false
            unfolding word wrong_count count
            possible = ap not n

            end : 12 + 2 * word b 1 ≤ 508
            end = omega (arith, leb-true (word b 1) 248 (both (leb 1 (word b 1)) (leb (word b 1) 248) n).1)

            zero : unused_zero b (word b 1) ≡ not (used_unused b)
            unfolding word used_unused count
            zero = zeros_are b (12 + 2 * word b 1) (508 - (12 + 2 * word b 1)) (omega (arith, end)) ∙ not_not _

            pub told_9 : unused_zero b (word b 1) ≡ false → 9 ≡ first_of (block_rules b code)
            unfolding block_rules first_of
            told_9 z = sym (simp (long, right, known, rate_right b code c, possible, not-false _ (sym zero ∙ z)))

            pub told_0 : unused_zero b (word b 1) ≡ true → 0 ≡ first_of (block_rules b code)
            unfolding block_rules first_of
            told_0 z = sym (simp (long, right, known, rate_right b code c, possible, not-true _ (sym zero ∙ z)))

pub ruleset told = (told_5, told_6, told_7, told_8, told_9, told_0)

-- ---- 18

pub writable_is : (n k : ℕ) → 1 ≤ k → k ≤ 248 → n + k ≤ most_samples → unwritable n k ≡ false
unfolding unwritable
writable_is n k some few end = simp (le-leb 1 k some, le-leb k 248 few, le-leb (n + k) most_samples end)

pub writable_facts : (n k : ℕ) → unwritable n k ≡ false → (1 ≤ k) × (k ≤ 248) × (n + k ≤ most_samples)
unfolding unwritable
writable_facts n k h =
    let t = both _ _ (not-false _ h) in
    let u = both _ _ t.0 in
    (leb-true _ _ u.0, leb-true _ _ u.1, leb-true _ _ t.1)

pub few_writable : (n k : ℕ) → unwritable n k ≡ false → k ≤ 248
few_writable n k h = (writable_facts n k h).1

-- as the code finds it: the number of samples first, and then the number before against what 2^48 leaves room for
pub count_unwritable : (n k : ℕ) → leb 1 k && leb k 248 ≡ false → true ≡ unwritable n k
unfolding unwritable
count_unwritable n k h = sym (simp h)

pub end_unwritable : (n k : ℕ) → leb 1 k && leb k 248 ≡ true → k ≤ 248 → ltb (most_samples - k) n ≡ unwritable n k
unfolding unwritable
end_unwritable n k h l = go (ltb (most_samples - k) n) refl
  where
    go : (t : Bool) → ltb (most_samples - k) n ≡ t → t ≡ not (leb 1 k && leb k 248 && leb (n + k) most_samples)
    go true e = sym (simp (h, lt-leb (n + k) most_samples (omega (arith, ltb-true (most_samples - k) n e))))
    go false e = sym (simp (h, le-leb (n + k) most_samples (omega (arith, ltb-false (most_samples - k) n e))))

pub ruleset writing = (count_unwritable, end_unwritable)
