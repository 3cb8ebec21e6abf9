-- The samples of a sound block; and the rules of a block call at a meter that refusal 2 lets pass.
use mathlib.Core.Bool.{true, false}
use mathlib.Core.List.{List, [], ◌∷◌}
use mathlib.Core.Path.{◌≡◌, refl, ap, ◌∙◌}
use Prim.Native.Nat.{ℕ, ◌*◌, ◌/◌, ◌≤◌}
use native.Mathlib.Omega.{arith}
use lib.IntN.{ℤ}
use lib.ListN.{length, take}
use Rattle.coding.specs.Samples.{samples_at, decoded_into}
use Rattle.coding.proofs.Laws.{decoded_first}
use Rattle.block.specs.Block.{rate_code, count, samples_in}
use Rattle.block.specs.Refusals.{block_rules, sound}
use Rattle.block.proofs.Laws.{sound_accepted, sound_count, part_length, part_reads}
use Rattle.refusal.specs.declared.Refusal.{Refusal}
use Rattle.refusal.specs.First.{first_of, rising}
use Rattle.refusal.specs.Number.{number_of}
use Rattle.refusal.proofs.Laws.{here, past, positive, append_first, append_past}
use Rattle.meter.specs.declared.Meter.{Meter}
use Rattle.meter.specs.Inner.{SoundAt}
use Rattle.meter.specs.Refusals.{impossible, wrong_place, too_many, block_call_rules}

module _ {b : List ℕ} {code : ℕ} {part : List ℕ} (s : SoundAt b code part) where
  -- the part's samples number as the block's count says, and at most 248
  pub half : length part / 2 ≡ count b
  half = let p : length part ≡ 2 * count b = ap length s.part_is ∙ part_length b s.fits in omega arith

  pub few : length part / 2 ≤ 248
  few = omega (arith, half, (sound_count b s.fits).1)

  -- what was decoded is the block's samples
  pub read : (xs old : List ℤ) → length old ≡ 248 → xs ≡ decoded_into part old → take (length part / 2) xs ≡ samples_in b
  read xs old r d =
      ap (take (length part / 2)) d
      ∙ decoded_first part old (omega (arith, few, r))
      ∙ ap (samples_at part 0) half
      ∙ ap (λ (l : List ℕ). samples_at l 0 (count b)) s.part_is
      ∙ part_reads b s.fits

pub by_meter : (m : Meter) (b : List ℕ) → impossible m ≡ true → 2 ≡ first_of (block_call_rules m b)
unfolding block_call_rules
by_meter m b e = here 2 (impossible m) _ e

module _ (m : Meter) (b : List ℕ) (possible : impossible m ≡ false) where
  -- the block's own rules
  pub by_rule : (why : Refusal) → number_of why ≡ first_of (block_rules b m.setting.code) → number_of why ≡ first_of (block_call_rules m b)
  unfolding block_call_rules
  by_rule why e = append_first (number_of why) ((2, impossible m) ∷ block_rules b m.setting.code) _ (positive why) (past 2 (impossible m) _ possible e)

  -- nothing of 2 to 9
  pub past_rules : {n : ℕ} → sound b ≡ true → rate_code b ≡ m.setting.code → n ≡ first_of ((10, wrong_place m b) ∷ (11, too_many m (count b)) ∷ []) → n ≡ first_of (block_call_rules m b)
  unfolding block_call_rules block_rules rising
  past_rules s r e =
      e
      ∙ append_past 0 ((2, impossible m) ∷ block_rules b m.setting.code) _ refl
      (past 2 (impossible m) _ possible (sound_accepted b m.setting.code s r))
