-- The margin is for reports alone: a measurement depends on the code, the offset and what E took, and E is not fed the margin.
use mathlib.Core.List.{List}
use mathlib.Core.Path.{◌≡◌, sym, ap, ap₂, subst, ◌∙◌}
use Prim.Native.Nat.{ℕ}
use lib.IntN.{ℤ}
use mir.Syntax.{w16}
use mir.Val.{SFits}
use Rattle.setting.specs.declared.Setting.{Setting}
use Rattle.meter.specs.Calls.{open_call}
use Rattle.exact.specs.Calls.{Call, Typed}
use Rattle.exact.specs.Demands.{TypedOffset, Opens, meter_after, exact_at, SameMeasurement}
use Rattle.exact.specs.Exact.{start, answers_of_e, took}
use Rattle.exact.proofs.Calls.{good_open, same_answers, same_samples}
use Rattle.thresholds.specs.declared.Thresholds.{Thresholds}
use Rattle.exact.proofs.Lost.{measurement, state_is}

-- over the samples that E took
by_code : (c : Setting) (calls : List Call) → TypedOffset c → Opens c → Typed calls
    → (meter_after c calls).state ≡ measurement c.thresholds c.code c.offset (took (exact_at c) calls)
by_code c calls t z f =
    state_is c calls z ∙ ap (measurement c.thresholds c.code c.offset) (same_samples calls (open_call c).meter (exact_at c) f (good_open c t z))

pub any_margin : (c c' : Setting) (calls : List Call) → TypedOffset c → Opens c → Opens c' → Typed calls → c'.code ≡ c.code → c'.offset ≡ c.offset → c'.thresholds ≡ c.thresholds
    → SameMeasurement c c' calls
any_margin c c' calls t z z' f code offset list =
    let t' : TypedOffset c' = subst (SFits w16) (sym offset) t in
    record {
      answers = same_answers calls _ _ f (good_open c' t' z')
          ∙ ap₂ (λ (k : ℕ) (o : ℤ). answers_of_e (start k o) calls) code offset
          ∙ sym (same_answers calls _ _ f (good_open c t z));
      state = by_code c' calls t' z' f
          ∙ ap₂ (λ (k : ℕ) (o : ℤ). measurement c'.thresholds k o (took (start k o) calls)) code offset
          ∙ ap (λ (T : Thresholds). measurement T c.code c.offset (took (exact_at c) calls)) list
          ∙ sym (by_code c calls t z f);
    }
