-- The hangovers are those of the definition.
use Rattle.std.proofs.Common.{◌≡◌, ◌++◌, ◌-◌, ℕ, replicate, drop, ap, ap₂, ◌∙◌}
use Rattle.std.proofs.lemmas.List.{drop-replicate, length-take-le}
use Rattle.level.specs.Types.{words}
use Rattle.thresholds.specs.Lists.{places}
use Rattle.thresholds.proofs.Places.{filled_with}
use Rattle.sample.specs.Sample.{fresh_state, list_from}
use Rattle.meter.specs.Inner.{fresh_at}
use Rattle.meter.proofs.Meter.fresh.Goals as goal

pub returns : goal.returns
unfolding fresh_at fresh_state list_from words
returns c =
    let k = c.args.setting.thresholds.count in
    let e : c.fill.new.self ++ drop k (replicate places 0) ≡ replicate k c.args.hangover ++ replicate (places - k) 0 = ap₂ ◌++◌ (c.fill.ensures.after (λ y h. h) ∙ ap (λ (n : ℕ). replicate n c.args.hangover) (length-take-le k (replicate places 0) c.requires)) (drop-replicate k places 0) in
    rw (c.into.ensures, c.from.ensures, filled_with places k c.args.hangover c.requires, e)
