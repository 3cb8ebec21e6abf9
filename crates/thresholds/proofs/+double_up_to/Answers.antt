-- The places up to j − 1 are doubled out by the call of itself, and the next is twice the last of them.
use Rattle.std.proofs.Common.{◌≡◌, ◌+◌, ◌<◌, get_or, ℕ, ◌-◌, ◌*◌, ◌≤◌, ◌^◌, suc, List, refl, sym, ap, ◌∙◌, arith}
use Rattle.std.proofs.Math.ListN.{set}
use lib.Pow.{pow_mono}
use Rattle.thresholds.specs.Lists.{places, doubled, built_in_count}
use Rattle.thresholds.specs.Places.{each, up_to}
use Rattle.thresholds.proofs.Laws.{doubled_is}
use Rattle.thresholds.proofs.Places.{each_same, up_to_past, filled_at, one_place}
use Rattle.thresholds.proofs.+double_up_to.Goals as goal

abbrev interval : ℕ
interval = 16777216

empty : each places (up_to 0 doubled) ≡ each places (λ _. 0)
empty = each_same places (up_to 0 doubled) (λ _. 0) (λ i l. up_to_past 0 doubled i (omega arith))

first : interval ≡ doubled 0
unfolding doubled
first = refl

small : (j : ℕ) → j < built_in_count → doubled j ≤ 2 ^ 39
small j l = omega (arith, doubled_is j, pow_mono {i = j + 24} {j = 39} (omega arith))

-- with the places below j doubled out: what the last of them holds, and the list with the next
last_is : (j : ℕ) (l : List ℕ) → 0 < j → j < built_in_count → l ≡ each places (up_to (j - 1 + 1) doubled) → get_or l (j - 1) 0 ≡ doubled (j - 1)
last_is j l p b e = ap (λ (x : List ℕ). get_or x (j - 1) 0) e ∙ filled_at places (j - 1 + 1) doubled (j - 1) (omega arith) (omega arith)

twice : (j : ℕ) → 0 < j → 2 * doubled (j - 1) ≡ doubled j
unfolding doubled
twice j p = let e : suc (j - 1) ≡ j = omega arith in ap doubled e

next : (j : ℕ) (l : List ℕ) → 0 < j → j < built_in_count → l ≡ each places (up_to (j - 1 + 1) doubled) → set l j (2 * get_or l (j - 1) 0) ≡ each places (up_to (j + 1) doubled)
next j l p b e =
    let n : j - 1 + 1 ≡ j = omega arith in
    ap (λ (x : List ℕ). set x j (2 * get_or l (j - 1) 0)) (e ∙ ap (λ (k : ℕ). each places (up_to k doubled)) n)
    ∙ one_place places doubled j _ (omega arith) (ap (λ (x : ℕ). 2 * x) (last_is j l p b e) ∙ twice j p)

pub overflow_mul-at : goal.overflow_mul-at
overflow_mul-at t c = omega (arith, last_is c.args.j c.double_up_to.new.at (omega arith) c.requires.0 c.double_up_to.ensures, small (c.args.j - 1) (omega arith))

pub returns-then-j-eq0 : goal.returns-then-j-eq0
returns-then-j-eq0 t c =
    ap (λ (l : List ℕ). set l 0 interval) (c.requires.1 ∙ sym empty)
    ∙ one_place places doubled 0 interval (omega arith) first
    ∙ ap (λ (k : ℕ). each places (up_to (k + 1) doubled)) (sym c.if-j-eq0.true)

pub returns-else-j-eq0 : goal.returns-else-j-eq0
returns-else-j-eq0 t c = next c.args.j c.double_up_to.new.at (omega arith) c.requires.0 c.double_up_to.ensures
