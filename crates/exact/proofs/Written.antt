-- His request L6: a written block holds the samples that it was made of, passes the host's check, and is taken by a meter that stands where it begins.
use mathlib.Core.Bool.{false, not}
use mathlib.Core.List.{List}
use mathlib.Core.Path.{◌≡◌, sym, ap, ap₂, ◌∙◌, subst}
use Prim.Native.Nat.{ℕ, ◌+◌}
use native.Mathlib.Omega.{arith}
use borrow.Author.Tests.{eq-eqb, le-ltb}
use lib.IntN.{ℤ}
use Rattle.level.specs.Types.{most_samples}
use Rattle.refusal.specs.First.{NoneApplies}
use Rattle.block.specs.Block.{rate_code, count, before}
use Rattle.block.specs.Refusals.{wrong_rate, block_rules}
use Rattle.coding.specs.Typed.{AllSamples}
use Rattle.block.specs.Written.{block_of, write_call}
use Rattle.block.proofs.Laws.{sound_is}
use Rattle.block.proofs.Made.{Writable, writable, written, code_written, count_written, before_written, samples_written, sound_written, host_written}
use Rattle.meter.specs.declared.Meter.{Meter}
use Rattle.meter.specs.Calls.{after_samples, block_call}
use Rattle.meter.specs.Refusals.{impossible, wrong_place, too_many, block_call_rules}
use Rattle.meter.proofs.Laws.{block_taken, block_samples}
use Rattle.exact.specs.Demands.{ReadsBack}

module _ (code n : ℕ) (xs : List ℤ) (w : Writable code n xs) where
  -- no rule of the call applies
  none_applies : (m : Meter) → m.setting.code ≡ code → m.state.sums.n.0 ≡ n → impossible m ≡ false → NoneApplies (block_call_rules m (block_of code n xs))
  unfolding NoneApplies block_call_rules block_rules wrong_rate wrong_place too_many
  none_applies m c e ok =
      let b = block_of code n xs in
      let s = sound_is b (sound_written code n xs w) in
      let rate = eq-eqb (rate_code b) m.setting.code (code_written code n xs w ∙ sym c) in
      let place = eq-eqb (before b) m.state.sums.n.0 (before_written code n xs w ∙ sym e) in
      let room = le-ltb most_samples (m.state.sums.n.0 + count b) (omega (arith, w.end, e, count_written code n xs w)) in
      (ok, (s.length_ok, (s.check_ok, (s.kind_ok, (ap not rate, (s.count_ok, (s.unused_ok, (ap not place, (room, tt)))))))))

  taken : AllSamples xs → (m : Meter) → m.setting.code ≡ code → m.state.sums.n.0 ≡ n → impossible m ≡ false
      → block_call m (block_of code n xs) ≡ record { number = 0; meter = after_samples m xs }
  taken a m c e ok =
      let b = block_of code n xs in
      let none = none_applies m c e ok in
      ap₂ (λ (r : ℕ) (x : Meter). record { number = r; meter = x })
      ((block_taken m b).1 none)
      (block_samples m b none ∙ ap (after_samples m) (samples_written code n xs w a))

pub reads_back : (code n : ℕ) (xs : List ℤ) (buffer : List ℕ) → AllSamples xs → (write_call code n xs buffer).number ≡ 0
    → ReadsBack code n xs (write_call code n xs buffer).buffer
reads_back code n xs buffer a z =
    let w = writable code n xs buffer z in
    subst (ReadsBack code n xs) (sym (written code n xs buffer z))
    (record {
      samples = samples_written code n xs w a;
      checked = host_written code n xs w;
      taken = taken code n xs w a;
    })
