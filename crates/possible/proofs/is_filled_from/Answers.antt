-- The search through what the counters have from the place on is the one through those places.
use Rattle.std.proofs.Common.{Bool, ◌||◌, ltb, ℕ, ◌+◌, ◌-◌, ◌≤◌, Iter, ◌≡◌, List, get_or, length, drop, length-drop, zip, ap, ap₂, ◌∙◌, arith, rules, tests}
use Rattle.std.proofs.lemmas.List.{get_or-drop}
use Rattle.std.proofs.lemmas.Slice.Zip.{get_or-zip, length-zip}
use Rattle.std.specs.List.{list_any}
use Rattle.std.specs.Slice.Iter.{iter_rest}
use Rattle.std.proofs.lemmas.Iterator.{YieldsList-from_slice, YieldsList-from_zip}
use Rattle.std.proofs.lemmas.Iterator.Search.{any_from_yields_List}
use Rattle.level.specs.declared.Samples.{Samples}
use Rattle.thresholds.specs.Lists.{places}
use Rattle.thresholds.specs.Places.{some_from}
use Rattle.level.specs.Types.{samples_of}
use Rattle.sample.specs.declared.State.{State}
use Rattle.thresholds.proofs.Places.{tail_is}
use Rattle.thresholds.proofs.Below.{list_any-from}
use Rattle.possible.specs.Impossible.{filled_counter}
use Rattle.possible.proofs.is_filled_from.Goals as goal

is_filled : Samples × ℕ → Bool
is_filled c = ltb 0 c.0.0 || ltb 0 c.1

tested : (m : State) (k : ℕ) → length m.a ≡ places → length m.h ≡ places → k ≤ places → list_any is_filled (zip (drop k m.a) (drop k m.h)) ≡ some_from k places (filled_counter m)
unfolding is_filled filled_counter
tested m k e f l =
    list_any-from (samples_of 0, 0) is_filled (zip a h) k places (filled_counter m) (omega (arith, length-zip a h, n, o))
    (λ j i. ap is_filled (get_or-zip a h j (samples_of 0, 0) (omega (arith, length-zip a h, n, o)) (omega (arith, length-zip a h, n, o))) ∙ at j)
  where
    a : List Samples
    a = drop k m.a

    h : List ℕ
    h = drop k m.h

    n : length a ≡ places - k
    n = omega (arith, length-drop k m.a)

    o : length h ≡ places - k
    o = omega (arith, length-drop k m.h)

    at : (j : ℕ) → is_filled (get_or a j (samples_of 0), get_or h j 0) ≡ filled_counter m (k + j)
    at j = ap₂ (λ (x : Samples) (y : ℕ). is_filled (x, y)) (get_or-drop k m.a j (samples_of 0)) (get_or-drop k m.h j 0)

pub returns : goal.returns
unfolding is_filled
returns c =
    let m = c.args.state.now in
    let k = c.args.place in
    let a = ap (λ (s : Iter Samples). iter_rest s) c.zip.ensures.first ∙ c.iter.ensures.rest ∙ tail_is places k m.a (omega arith) in
    let h = c.zip.ensures.second.0 ∙ tail_is places k m.h (omega arith) in
    any_from_yields_List is_filled c.any.new.self _ c.any.result c.any.ensures.ran
    (YieldsList-from_zip {v = λ y. y.now} {w = λ y. y.now} (YieldsList-from_slice (drop k m.a) a) (YieldsList-from_slice (drop k m.h) h)) (λ x b q k. search (rules, tests))
    ∙ tested m k (omega arith) (omega arith) c.requires
