-- What the crates above know of a block: what soundness is in terms of the rules, what its part is, and what the host is told.
use mathlib.Core.Bool.{Bool, true, false, not, and-false}
use mathlib.Core.List.{List, [], ◌∷◌}
use mathlib.Core.Logic.{◌↔◌}
use mathlib.Core.Path.{◌≡◌, refl, sym, ap, ap₂, ◌∙◌}
use Prim.Native.Nat.{ℕ, zero, suc, ◌+◌, ◌-◌, ◌*◌, ◌≤◌, ◌<◌}
use native.Mathlib.Omega.{arith}
use native.Mathlib.Nat.{add_assoc}
use borrow.Author.Tests.{eqb-true, leb-true, not-true, not-false}
use lib.ListN.{length, take, drop, length-drop}
use lib.Seq.{get_or-take, get_or-drop, length-take-le}
use Rattle.std.proofs.Common.{Result, Ok, Err}
use Rattle.std.specs.Result.{is_ok}
use Rattle.refusal.specs.declared.Refusal.{Refusal}
use Rattle.refusal.specs.Number.{number_of, number_given}
use Rattle.refusal.specs.First.{first_of, NoneApplies, numbered, rising, Given, Lowest}
use Rattle.refusal.proofs.Laws.{here, past, given, given_lowest, both, positive}
use Rattle.rate.specs.Rates.{is_named}
use Rattle.coding.specs.Numbers.{number_at}
use Rattle.coding.specs.Samples.{signed, samples_at}
use Rattle.coding.proofs.Laws.{samples_at_length}
use Rattle.block.specs.Block.{rate_code, count, samples_in}
use Rattle.block.specs.Refusals.{wrong_length, wrong_check, wrong_kind, wrong_rate, wrong_count, used_unused, block_rules, sound, samples_part, host_rules, host_check}
use Rattle.block.proofs.Conditions.{rate_off, rate_right}

-- ---- soundness

pub record Sound (b : List ℕ) : Type 0 where
  pub length_ok : wrong_length b ≡ false
  pub check_ok : wrong_check b ≡ false
  pub kind_ok : wrong_kind b ≡ false
  pub count_ok : wrong_count b ≡ false
  pub unused_ok : used_unused b ≡ false
  pub named : is_named (rate_code b) ≡ true

pub sound_is : (b : List ℕ) → sound b ≡ true → Sound b
unfolding sound
sound_is b h =
    let h5 = both _ _ h in
    let h4 = both _ _ h5.0 in
    let h3 = both _ _ h4.0 in
    let h2 = both _ _ h3.0 in
    let h1 = both _ _ h2.0 in
    record {
      length_ok = not-true _ h1.0;
      check_ok = not-true _ h1.1;
      kind_ok = not-true _ h2.1;
      count_ok = not-true _ h3.1;
      unused_ok = not-true _ h4.1;
      named = h5.1;
    }

pub is_sound_lem : (b : List ℕ) → Sound b → sound b ≡ true
unfolding sound
is_sound_lem b s = simp (s.length_ok, s.check_ok, s.kind_ok, s.count_ok, s.unused_ok, s.named)

-- nothing refuses a sound block at its own code
pub sound_accepted : (b : List ℕ) (code : ℕ) → sound b ≡ true → rate_code b ≡ code → 0 ≡ first_of (block_rules b code)
unfolding block_rules first_of
sound_accepted b code h e =
    let s = sound_is b h in
    sym (simp (s.length_ok, s.check_ok, s.kind_ok, rate_right b code e, s.count_ok, s.unused_ok))

-- and at another only 7 does
pub sound_refused : (b : List ℕ) (code : ℕ) → sound b ≡ true → (rate_code b ≡ code → ⊥) → 7 ≡ first_of (block_rules b code)
unfolding block_rules first_of
sound_refused b code h f =
    let s = sound_is b h in
    sym (simp (s.length_ok, s.check_ok, s.kind_ok, rate_off b code f))

blocks_numbered : (b : List ℕ) (code : ℕ) → numbered (block_rules b code) ≡ true
unfolding block_rules numbered
blocks_numbered b code = refl

rate_is : (b : List ℕ) (code : ℕ) → wrong_rate b code ≡ false → rate_code b ≡ code
unfolding wrong_rate
rate_is b code h = eqb-true _ _ (not-false _ h)

-- and a block that nothing refuses at a named code is sound, and of that code
pub accepted_sound : (b : List ℕ) (code : ℕ) → is_named code ≡ true → 0 ≡ first_of (block_rules b code) → (sound b ≡ true) × (rate_code b ≡ code)
unfolding block_rules NoneApplies
accepted_sound b code n h =
    let c = (given (block_rules b code) (blocks_numbered b code)).accepted.0 (sym h) in
    let e = rate_is b code c.1.1.1.0 in (
      is_sound_lem b
          (record {
            length_ok = c.0;
            check_ok = c.1.0;
            kind_ok = c.1.1.0;
            count_ok = c.1.1.1.1.0;
            unused_ok = c.1.1.1.1.1.0;
            named = ap is_named e ∙ n;
          }),
      e,
    )

pub refused_unsound : (b : List ℕ) (code n : ℕ) → rate_code b ≡ code → 0 < n → n ≡ first_of (block_rules b code) → sound b ≡ false
refused_unsound b code n e p h = go (sound b) refl
  where
    go : (t : Bool) → sound b ≡ t → sound b ≡ false
    go true q = absurd (omega (arith, sound_accepted b code q e))
    go false q = q

-- so a block is sound where its own code is named and the answer at that code accepts it
pub unsound_named : (b : List ℕ) → is_named (rate_code b) ≡ false → false ≡ sound b
unfolding sound
unsound_named b e = sym (simp (e, and-false))

pub sound_answer : (b : List ℕ) (answer : Result Unit Refusal) → is_named (rate_code b) ≡ true → number_given answer ≡ first_of (block_rules b (rate_code b))
    → is_ok answer ≡ sound b
sound_answer b (Ok u) n e = sym (accepted_sound b (rate_code b) n e).0
sound_answer b (Err why) n e = sym (refused_unsound b (rate_code b) (number_of why) refl (positive why) e)

pub ruleset answered = (unsound_named, sound_answer)

-- ---- the part

pub part_none : (b : List ℕ) → sound b ≡ false → [] ≡ samples_part b
unfolding samples_part
part_none b e = sym (simp e)

pub part_some : (b : List ℕ) → sound b ≡ true → take (2 * count b) (drop 12 b) ≡ samples_part b
unfolding samples_part
part_some b e = sym (simp e)

length_is : (b : List ℕ) → wrong_length b ≡ false → length b ≡ 512
unfolding wrong_length
length_is b h = eqb-true _ _ (not-false _ h)

count_is : (b : List ℕ) → wrong_count b ≡ false → (1 ≤ count b) × (count b ≤ 248)
unfolding wrong_count
count_is b h = let r = both _ _ (not-false _ h) in (leb-true _ _ r.0, leb-true _ _ r.1)

pub sound_length : (b : List ℕ) → sound b ≡ true → length b ≡ 512
sound_length b h = length_is b (sound_is b h).length_ok

pub sound_count : (b : List ℕ) → sound b ≡ true → (1 ≤ count b) × (count b ≤ 248)
sound_count b h = count_is b (sound_is b h).count_ok

-- as the code reads the count and cuts the part out
pub part_end : (b : List ℕ) → sound b ≡ true → 12 + 2 * number_at b 2 2 ≤ length b
unfolding count
part_end b h = omega (arith, sound_length b h, (sound_count b h).1)

pub part_cut : (b : List ℕ) → sound b ≡ true → take (12 + 2 * number_at b 2 2 - 12) (drop 12 b) ≡ samples_part b
unfolding count
part_cut b h =
    let e : 12 + 2 * number_at b 2 2 - 12 ≡ 2 * number_at b 2 2 = omega arith in
    ap (λ (n : ℕ). take n (drop 12 b)) e ∙ part_some b h

pub ruleset parted = (part_none, part_end, part_cut)

-- two bytes for each sample
pub part_length : (b : List ℕ) → sound b ≡ true → length (samples_part b) ≡ 2 * count b
part_length b h =
    let c = sound_count b h in
    let fits : 2 * count b ≤ length (drop 12 b) = omega (arith, sound_length b h, length-drop 12 b) in
    ap length (sym (part_some b h)) ∙ length-take-le (2 * count b) (drop 12 b) fits

-- the part is non-empty exactly where the block is sound
pub part_sound : (b : List ℕ) → 0 < length (samples_part b) ↔ (sound b ≡ true)
part_sound b = (λ h. go (sound b) refl h, λ h. omega (arith, part_length b h, (sound_count b h).0))
  where
    go : (t : Bool) → sound b ≡ t → 0 < length (samples_part b) → sound b ≡ true
    go true e h = e
    go false e h = absurd (omega (arith, ap length (part_none b e)))

number_part : (b : List ℕ) (k n size at : ℕ) → at + size ≤ n → number_at (take n (drop k b)) at size ≡ number_at b (k + at) size
unfolding number_at
number_part b k n zero at h = refl
number_part b k n (suc size) at h =
    ap₂ (λ (x y : ℕ). x + 256 * y)
    (get_or-take n (drop k b) at 0 (omega arith) ∙ get_or-drop k b at 0)
    (number_part b k n size (at + 1) (omega arith) ∙ ap (λ (x : ℕ). number_at b x size) (sym (add_assoc k at 1)))

samples_part_lem : (b : List ℕ) (k n c at : ℕ) → at + 2 * c ≤ n → samples_at (take n (drop k b)) at c ≡ samples_at b (k + at) c
unfolding samples_at
samples_part_lem b k n zero at h = refl
samples_part_lem b k n (suc c) at h =
    ap₂ ◌∷◌
    (ap signed (number_part b k n 2 at (omega arith)))
    (samples_part_lem b k n c (at + 2) (omega arith) ∙ ap (λ (x : ℕ). samples_at b x c) (sym (add_assoc k at 2)))

-- read from its first byte on, the part gives the block's samples
pub part_reads : (b : List ℕ) → sound b ≡ true → samples_at (samples_part b) 0 (count b) ≡ samples_in b
unfolding samples_in
part_reads b h =
    ap (λ (p : List ℕ). samples_at p 0 (count b)) (sym (part_some b h))
    ∙ samples_part_lem b 12 (2 * count b) (count b) 0 (omega arith)

-- as many as the count says
pub samples_length : (b : List ℕ) → length (samples_in b) ≡ count b
unfolding samples_in
samples_length b = samples_at_length b 12 (count b)

-- ---- the host

host_rises : (b : List ℕ) (code : ℕ) → rising 0 (host_rules b code) ≡ true
unfolding host_rules block_rules rising
host_rises b code = refl

-- the code's own test comes before the block's
pub host_unnamed : (b : List ℕ) (code : ℕ) → is_named code ≡ false → 1 ≡ host_check b code
unfolding host_check host_rules
host_unnamed b code e = here _ _ _ (ap not e)

pub host_named : (b : List ℕ) (code : ℕ) → is_named code ≡ true → first_of (block_rules b code) ≡ host_check b code
unfolding host_check host_rules
host_named b code e = past _ _ _ (ap not e) refl

pub ruleset hosted = (host_unnamed, host_named)

-- the host is told the number of the first rule that applies, which is the lowest
pub host_given : (b : List ℕ) (code : ℕ) → Given (host_rules b code) (host_check b code) × Lowest (host_rules b code) (host_check b code)
unfolding host_check
host_given b code = given_lowest (host_rules b code) (host_rises b code)

-- the host is told 0 exactly where the block is sound and its code is the given, named one
pub host_told : (b : List ℕ) (code : ℕ) → 0 ≡ host_check b code ↔ (sound b ≡ true) × (rate_code b ≡ code)
unfolding host_check host_rules NoneApplies
host_told b code = (
  λ h. let c = (host_given b code).0.accepted.0 (sym h) in accepted_sound b code (not-false _ c.0) (sym ((given (block_rules b code) (blocks_numbered b code)).accepted.1 c.1)),
  λ p. past _ _ _ (ap not (ap is_named (sym p.1) ∙ (sound_is b p.0).named)) (sound_accepted b code p.0 p.1),
)
