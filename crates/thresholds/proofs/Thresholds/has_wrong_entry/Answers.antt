-- The windows are the pairs of neighbours, and each is tested as the definition tests it.
use Rattle.std.proofs.Common.{Bool, ℕ, ◌+◌, ◌-◌, ◌<◌, ◌≤◌, List, [], ◌∷◌, get_or, length, take, drop, ◌≡◌, refl, ap, ap₂, ◌∙◌, length-drop, arith, rules, tests, zip}
use Rattle.std.specs.declared.slice.ArrayWindows.{ArrayWindows}
use Rattle.std.specs.Slice.Iter.{windows_rest, windows_size}
use Rattle.std.specs.Slice.ArrayWindows.{array_windows_parts, array_windows_steps}
use Rattle.std.proofs.lemmas.Iterator.{YieldsList}
use Rattle.std.proofs.lemmas.Iterator.Splits.{YieldsList-from_shown_while}
use Rattle.std.proofs.lemmas.Iterator.Search.{any_from_yields_List}
use Rattle.std.specs.List.{list_any}
use Rattle.std.proofs.lemmas.List.{length-take-le, get_or-take}
use Rattle.std.proofs.lemmas.Grind.{get_or_after_one}
use Rattle.std.proofs.lemmas.Slice.Zip.{get_or-zip, length-zip}
use Rattle.thresholds.specs.Places.{some_below}
use Rattle.thresholds.specs.declared.Thresholds.{Thresholds}
use Rattle.thresholds.specs.Lists.{places, wrong_pair, wrong_entry, threshold_of}
use Rattle.thresholds.proofs.Below.{list_any-below}
use Rattle.thresholds.proofs.Thresholds.has_wrong_entry.Goals as goal

neighbours : List ℕ → List (ℕ × ℕ)
neighbours l = zip l (drop 1 l)

none_left : (l : List ℕ) → length l < 2 → length (neighbours l) ≡ 0
unfolding neighbours
none_left [] h = refl
none_left (x ∷ []) h = refl
none_left (x ∷ y ∷ l) h = absurd (omega arith)

first_pair : (l w rest : List ℕ) → 2 ≤ length l → w ≡ take 2 l → rest ≡ drop 1 l → neighbours l ≡ (get_or w 0 0, get_or w 1 0) ∷ neighbours rest
unfolding neighbours
first_pair [] w rest h e f = absurd (omega arith)
first_pair (x ∷ []) w rest h e f = absurd (omega arith)
first_pair (x ∷ y ∷ l) w rest h e f = rw (e, f)

left : ArrayWindows ℕ 2 → List ℕ
left s = windows_rest (array_windows_parts s)

pairs : (s : ArrayWindows ℕ 2) → windows_size (array_windows_parts s) ≡ 2
    → YieldsList array_windows_steps (λ w. (get_or w.now 0 0, get_or w.now 1 0)) s (neighbours (left s))
unfolding left
pairs s e =
    YieldsList-from_shown_while _ _ (λ s. neighbours (left s)) (λ s. windows_size (array_windows_parts s) ≡ 2)
    (λ s t p h. none_left _ (omega (arith, h.1.0)))
    (λ s w t p h. (h.0 ∙ p, first_pair _ w.now _ (omega (arith, h.1.0)) (h.1.1 ∙ ap (λ (k : ℕ). take k (left s)) p) h.1.2))
    s e

wrong : ℕ × ℕ → Bool
wrong p = wrong_pair p.0 p.1

tested : (t : Thresholds) (l : List ℕ) → length t.at ≡ places → t.count ≤ places → l ≡ take t.count t.at → list_any wrong (neighbours l) ≡ wrong_entry t
unfolding wrong_entry neighbours wrong
tested t l e b f =
    list_any-below (0, 0) wrong (neighbours l) (λ j. wrong_pair (threshold_of t j) (threshold_of t (j + 1)))
    (λ j h. ap wrong (get_or-zip l (drop 1 l) j (0, 0) (omega (arith, many, len)) (omega (arith, many, len, length-drop 1 l)) ∙ ap₂ (λ (x y : ℕ). (x, y)) (held j (omega (arith, many, len))) (get_or_after_one l j 0 ∙ held (1 + j) (omega (arith, many, len)) ∙ ap (threshold_of t) (omega arith))))
    ∙ ap (λ (k : ℕ). some_below k (λ j. wrong_pair (threshold_of t j) (threshold_of t (j + 1)))) many
  where
    len : length l ≡ t.count
    len = ap length f ∙ length-take-le t.count t.at (omega arith)

    many : length (neighbours l) ≡ t.count - 1
    many = omega (arith, length-zip l (drop 1 l), length-drop 1 l, len)

    held : (j : ℕ) → j < length l → get_or l j 0 ≡ threshold_of t j
    held j h = ap (λ (x : List ℕ). get_or x j 0) f ∙ get_or-take t.count t.at j 0 (omega (arith, len))

pub returns : goal.returns
unfolding wrong left
returns c =
    any_from_yields_List wrong _ _ _ c.any.ensures.ran (pairs _ c.array_windows.ensures.size) (λ x b q k. search (rules, tests))
    ∙ tested c.args.self.now _ (omega arith) c.requires c.array_windows.ensures.rest
