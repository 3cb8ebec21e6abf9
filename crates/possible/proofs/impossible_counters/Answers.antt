-- A counter that fails a test of the code is impossible, and one that passes them all is not; then comes what is past the end.
use Rattle.std.proofs.Common.{Bool, true, false, refl, subst, suc, is_gt, nat_cmp, [], ◌∷◌, ◌++◌, length-append, ◌||◌, List, Option, Some, None, Iter, Bor, length, take, get_or, ◌≡◌, sym, ap, ◌∙◌, ℕ, ◌≤◌, ◌<◌, min, arith}
use Rattle.std.specs.Iterator.{Yields}
use Rattle.std.proofs.lemmas.Bool.{or_left, cases_lt}
use mathlib.Core.Logic.{⊎_elim}
use Rattle.std.proofs.lemmas.Bool.Decides.{nat_tests}
use Rattle.std.specs.Iterator.Adapters.{zip_first, zip_second}
use Rattle.std.specs.Slice.Iter.{iter_rest}
use Rattle.std.specs.declared.iter.Zip.{Zip}
use Rattle.std.proofs.iter.Yields.{fronts}
use Rattle.std.proofs.lemmas.Iterator.{zips}
use Rattle.std.proofs.lemmas.List.{get_or-take, length-take}
use Rattle.std.proofs.lemmas.Slice.Zip.{zip_turn, zip_end}
use Rattle.level.specs.declared.Samples.{Samples}
use Rattle.level.specs.Types.{samples_of, activity}
use Rattle.thresholds.specs.Lists.{places}
use Rattle.thresholds.specs.Places.{some_below, some_from}
use Rattle.thresholds.proofs.Below.{some_below_lem, none_from}
use Rattle.possible.specs.Impossible.{impossible_counter, filled_counter}
use Rattle.possible.proofs.Counters.{count_before, hangover_before, too_long, too_many, too_short, possible}
use Rattle.possible.proofs.impossible_counters.Invariants.{Testing}
use Rattle.possible.proofs.impossible_counters.Goals as goal
use Rattle.possible.proofs.impossible_counters.Goals.{After-into_iter-a-iterator, then-h-hangover-via-then-h-hangover, then-h-hangover-via-else-h-hangover+then-gt, then-h-hangover-via-else-h-hangover+else-gt+then-h-held}

counts : (c : After-into_iter-a-iterator) → iter_rest (zip_first c.into_iter-a-iterator.result) ≡ take c.min-many.result c.args.state.now.a
counts c = ap (λ (z : Zip (Iter Samples) (Iter ℕ)). iter_rest (zip_first z)) c.into_iter-a-iterator.ensures.into_iter_gives ∙ ap (λ (s : Iter Samples). iter_rest s) c.zip-a-items.ensures.first ∙ c.iter.ensures.rest

hangovers : (c : After-into_iter-a-iterator) → iter_rest (zip_second c.into_iter-a-iterator.result) ≡ take c.min-many.result c.args.state.now.h
hangovers c = ap (λ (z : Zip (Iter Samples) (Iter ℕ)). iter_rest (zip_second z)) c.into_iter-a-iterator.ensures.into_iter_gives ∙ c.zip-a-items.ensures.second.0

-- the counter of a turn, and how many turns there are
turn : (c : After-into_iter-a-iterator) (xs : List (Bor Samples × Bor ℕ)) (t u : Zip (Iter Samples) (Iter ℕ)) (r : Option (Bor Samples × Bor ℕ)) (p : Bor Samples × Bor ℕ)
    → Yields (zips fronts fronts) c.into_iter-a-iterator.result xs t → r ≡ Some p → zips fronts fronts t r u
    → (length xs < c.min-many.result) × (p.0.now.0 ≡ activity c.args.state.now.a (length xs)) × (p.1.now ≡ get_or c.args.state.now.h (length xs) 0)
turn c xs t u r p y e step =
    let n = c.min-many.result in
    let m = c.args.state.now in
    let z = zip_turn _ _ xs _ t u r (counts c) (hangovers c) y p e step in
    let l : length xs < n = omega (arith, z.0, length-take n m.a) in
    (l, ap (λ (x : Samples). x.0) (z.2 (samples_of 0) ∙ get_or-take n m.a (length xs) (samples_of 0) l), z.3 0 ∙ get_or-take n m.h (length xs) 0 l)

turns : (c : After-into_iter-a-iterator) (xs : List (Bor Samples × Bor ℕ)) (t u : Zip (Iter Samples) (Iter ℕ)) (r : Option (Bor Samples × Bor ℕ))
    → Yields (zips fronts fronts) c.into_iter-a-iterator.result xs t → r ≡ None → zips fronts fronts t r u → length xs ≡ min c.args.count places
turns c xs t u r y e step =
    omega (arith, zip_end _ _ xs _ t u r (counts c) (hangovers c) y e step, length-take c.min-many.result c.args.state.now.a, length-take c.min-many.result c.args.state.now.h, c.min-many.ensures)

above : (x y : ℕ) (r : Bool) → r ≡ is_gt (nat_cmp x y) → r ≡ true → y < x
above x y r e t = grind (arith, nat_tests)

not_above : (x y : ℕ) (r : Bool) → r ≡ is_gt (nat_cmp x y) → r ≡ false → x ≤ y
not_above x y r e t = grind (arith, nat_tests)

pub loop-a-init : goal.loop-a-init
unfolding count_before hangover_before some_below
loop-a-init c = ((tt, tt), tt, record { count_is = refl; hangover_is = refl; most = omega arith; none = refl })

pub returns-then-h-hangover : goal.returns-then-h-hangover
unfolding count_before hangover_before
returns-then-h-hangover c =
    let m = c.args.state.now in
    let I = c.args.hangover in
    let i = c.loop-a.invariant.2 in
    let j = length c.loop-a.yielded in
    let t = turn (goal.at.returns-then-h-hangover c).After-into_iter-a-iterator _ _ c.next.new.self _ _ c.loop-a.yielded_by c.in-Some.is c.next.ensures.steps in
    let wrong : impossible_counter I m j ≡ true = elim c.then-h-hangover.branch [
      | then-h-hangover-via-then-h-hangover w ↦ too_long I m j (omega (arith, t.2))
      | then-h-hangover-via-else-h-hangover+then-gt w ↦ too_many I m j (omega (arith, above c.in-Some.field-0-0.now.0 c.loop-a.before.0 _ w.gt.ensures w.if-gt.true, t.1, i.count_is))
      | then-h-hangover-via-else-h-hangover+else-gt+then-h-held w ↦ too_short I m j (omega (arith, t.2, i.hangover_is))
    ] in
    sym (or_left _ _ (some_below_lem (impossible_counter I m) j (min c.args.count places) wrong (omega (arith, t.0, c.min-many.ensures))))

pub loop-a-preserved : goal.loop-a-preserved
unfolding count_before hangover_before some_below
loop-a-preserved c =
    let m = c.args.state.now in
    let I = c.args.hangover in
    let i = c.loop-a.invariant.2 in
    let j = length c.loop-a.yielded in
    let t = turn (goal.at.loop-a-preserved c).After-into_iter-a-iterator _ _ c.next.new.self _ _ c.loop-a.yielded_by c.in-Some.is c.next.ensures.steps in
    let r = not_above c.in-Some.field-0-0.now.0 c.loop-a.before.0 _ c.gt.ensures c.if-gt.false in
    let most : activity m.a j ≤ m.sums.n.0 = omega (arith, t.1, r, i.most) in
    let fine : impossible_counter I m j ≡ false = possible I m j (omega (arith, t.2)) (omega (arith, t.1, r, i.count_is)) (omega (arith, t.2, i.hangover_is)) most in
    let e : length (c.loop-a.yielded ++ ((c.in-Some.field-0-0, c.in-Some.field-0-1) ∷ [])) ≡ suc j = omega (arith, length-append c.loop-a.yielded ((c.in-Some.field-0-0, c.in-Some.field-0-1) ∷ [])) in
    let next : Testing I m c.in-Some.field-0-0.now c.in-Some.field-0-1.now (suc j) = record { count_is = t.1; hangover_is = t.2; most = omega (arith, t.1, most); none = simp (i.none, fine) } in
    ((tt, tt), tt, subst (Testing I m c.in-Some.field-0-0.now c.in-Some.field-0-1.now) (sym e) next)

-- of a list that is longer than there are places, nothing stands past its end
from_least : (k n : ℕ) (f : ℕ → Bool) → some_from (min k n) n f ≡ some_from k n f
from_least k n f =
    ⊎_elim (λ h. none_from (min k n) n f (λ j l b. absurd (omega arith)) ∙ sym (none_from k n f (λ j l b. absurd (omega arith))))
    (λ h. ap (λ (x : ℕ). some_from x n f) (omega arith)) (cases_lt n k)

pub returns : goal.returns
returns c =
    let m = c.args.state.now in
    let t = turns (goal.at.returns c).After-into_iter-a-iterator _ _ c.next.new.self _ c.loop-a.yielded_by c.in-None.is c.next.ensures.steps in
    let none : some_below (min c.args.count places) (impossible_counter c.args.hangover m) ≡ false = ap (λ (k : ℕ). some_below k (impossible_counter c.args.hangover m)) (sym t) ∙ c.loop-a.invariant.2.none in
    c.is_filled_from.ensures ∙ ap (λ (k : ℕ). some_from k places (filled_counter m)) c.min-many.ensures ∙ from_least c.args.count places (filled_counter m)
    ∙ sym (ap (λ (b : Bool). b || some_from c.args.count places (filled_counter m)) none)
