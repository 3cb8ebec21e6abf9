-- The search through what the list has past its end is the one from its end on.
use Rattle.std.proofs.Common.{ap, ◌∙◌, ltb, drop, length-drop, arith, rules, tests}
use Rattle.std.proofs.lemmas.List.{get_or-drop}
use Rattle.std.proofs.lemmas.Iterator.{YieldsList-from_slice}
use Rattle.std.proofs.lemmas.Iterator.Search.{any_from_yields_List}
use Rattle.thresholds.specs.Lists.{places, filled}
use Rattle.thresholds.proofs.Below.{list_any-from}
use Rattle.thresholds.proofs.Places.{tail_is}
use Rattle.thresholds.proofs.Thresholds.is_filled_past_end.Goals as goal

pub returns : goal.returns
returns c =
    let t = c.args.self.now in
    let past = drop t.count t.at in
    any_from_yields_List (ltb 0) _ _ _ c.any.ensures.ran
    (YieldsList-from_slice past (c.iter.ensures.rest ∙ tail_is places t.count t.at (omega arith)))
    (λ x b q k. search (rules, tests))
    ∙ list_any-from 0 (ltb 0) past t.count places (filled t) (omega (arith, length-drop t.count t.at)) (λ j h. ap (ltb 0) (get_or-drop t.count t.at j 0))
