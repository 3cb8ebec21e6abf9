-- The places up to the list's end hold its entries, and both read 0 past it.
use Rattle.std.proofs.Common.{◌≡◌, ℕ, ◌+◌, ◌-◌, ◌≤◌, ◌<◌, ◌++◌, List, length, min, get_or, take, drop, replicate, ap, ◌∙◌, sym, length-append, length-drop, arith}
use Rattle.std.proofs.Math.ListN.{get_or-eq_default}
use Rattle.std.proofs.lemmas.Bool.{cases_lt}
use Rattle.std.proofs.lemmas.List.{get_or-take, get_or-drop, get_or_append_left, get_or-append_right, get_or-replicate, length-take}
use mathlib.Core.Logic.{⊎_elim}
use Rattle.thresholds.specs.Lists.{places, held_of}
use Rattle.thresholds.specs.Places.{each}
use Rattle.thresholds.proofs.Places.{is_each}
use Rattle.thresholds.proofs.Thresholds.of.Goals as goal

zeros : List ℕ
zeros = replicate places 0

-- n entries are copied, which are all or fill the places
copied : (l copy : List ℕ) (n : ℕ) → n ≡ min (length l) places → copy ≡ take n l → copy ++ drop n zeros ≡ each places (λ j. get_or l j 0)
unfolding zeros
copied l copy n e f =
    is_each 0 places (copy ++ drop n zeros) (λ j. get_or l j 0) (omega (arith, len, length-append copy (drop n zeros), length-drop n zeros))
    (λ j h. ⊎_elim (before j) (past j h) (cases_lt j n))
  where
    len : length copy ≡ n
    len = ap length f ∙ omega (arith, length-take n l)

    before : (j : ℕ) → j < n → get_or (copy ++ drop n zeros) j 0 ≡ get_or l j 0
    before j b = get_or_append_left copy (drop n zeros) 0 j (omega (arith, len)) ∙ ap (λ (x : List ℕ). get_or x j 0) f ∙ get_or-take n l j 0 b

    past : (j : ℕ) → j < places → n ≤ j → get_or (copy ++ drop n zeros) j 0 ≡ get_or l j 0
    past j h b =
        get_or-append_right copy (drop n zeros) n j 0 len b ∙ get_or-drop n zeros (j - n) 0 ∙ get_or-replicate places (n + (j - n)) 0 0 (omega arith)
        ∙ sym (get_or-eq_default l 0 (omega arith))

pub returns : goal.returns
unfolding held_of zeros
returns c = ap (λ (x : List ℕ). record { count = length c.args.list.now; at = x }) (copied c.args.list.now _ _ c.min-held.ensures c.copy_from_slice.ensures.after)
