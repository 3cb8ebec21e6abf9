-- The first sample leads to the first band, each run to the next one; at the end the counters are settled.
use Rattle.std.proofs.Common.{refl, subst, ap₂, get_or, pos, w16, List, [], ◌∷◌, ◌≡◌, ◌∙◌, ℤ, length, rules, arith}
use mir.Facts.{to_z-of_z}
use mir.Val.{SFits}
use Rattle.sample.specs.Inner.Steps.{moved}
use Rattle.thresholds.specs.declared.Thresholds.{Thresholds}
use Rattle.sample.specs.declared.Counting.{Counting}
use Rattle.sample.specs.declared.State.{State}
use Rattle.sample.specs.Sample.{list_from, state_after}
use Rattle.sample.proofs.Turning.{First, first_room, started, turned, finished}
use Rattle.sample.proofs.State.after.Goals as goal
use Rattle.sample.proofs.State.after.Goals.{After-lowest}

-- no sample
empty : (by : Counting) (t : Thresholds) (m : State) (xs : List ℤ) → length xs ≡ 0 → m ≡ state_after by t m xs
unfolding state_after
empty by t m [] e = refl
empty by t m (x ∷ xs) e = absurd (omega (arith, e))

pub returns-in_default : goal.returns-in_default
returns-in_default c = empty _ _ _ _ (search rules)

-- what the first sample left
first : (c : After-lowest) → First c.args.by c.args.list c.args.self c.args.xs.now c.step-moving.result
first c =
    let fits : SFits w16 c.in-Some.field-0.now = record { sfits = search rules } in
    let head : c.in-Some.field-0.now ≡ get_or c.args.xs.now 0 (pos 0) = search rules in
    record {
      within = c.requires;
      some = search rules;
      offset_fits = record { sfits = search rules };
      first_fits = subst (SFits w16) head fits;
      is = c.step-moving.ensures ∙ ap₂ (moved c.args.by) c.begin.ensures (to_z-of_z {w = w16} fits ∙ head);
    }

pub around-band-requires : goal.around-band-requires
around-band-requires c = (first_room _ _ _ _ _ (first c)).q_max

pub loop-at-init : goal.loop-at-init
unfolding list_from
loop-at-init c =
    let b = c.around-band.ensures in
    started _ _ _ _ _ (first (goal.at.loop-at-init c).After-lowest) _ _ (b.list ∙ c.lowest.ensures) b.from b.to (search rules) (search rules) (search rules) refl refl refl refl

pub loop-at-preserved : goal.loop-at-preserved
loop-at-preserved c =
    let b = c.around-next.ensures in
    turned _ _ _ _ _ _ _ _ c.loop-at.invariant c.requires.room _ _ _ c.run_on-run.ensures (b.list ∙ c.loop-at.invariant.of_list) b.from b.to _ c.cross.ensures

pub returns : goal.returns
returns c =
    finished _ _ _ _ _ _ _ _ c.loop-at.invariant c.requires.room c.finish.new.self c.finish.ensures c.loop-at-test.false _ c.end.ensures
