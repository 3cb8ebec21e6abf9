-- A meter's list of thresholds, the built-in one, and which lists load: METHOD.md, "Thresholds" and "Why a call is refused".
use Rattle.std.specs.Prelude.{Bool, ◌||◌, List, [], ◌∷◌, ℕ, zero, suc, ◌+◌, ◌-◌, ◌*◌, ◌^◌, leb, ltb, length, get_or}
use Rattle.refusal.specs.First.{Rule}
use Rattle.thresholds.specs.declared.Thresholds.{Thresholds}
use Rattle.thresholds.specs.Places.{each, up_to, some_below, some_from}

-- how many places a list has, which is the most that it may hold, and the fewest
abbrev pub places : ℕ
places = 24

abbrev pub fewest : ℕ
fewest = 14

-- c_j, in units
abbrev pub threshold_of : Thresholds → ℕ → ℕ
threshold_of t j = get_or t.at j 0

-- a list as it is handed in: its length, its first places, and zeros past its end
unfoldable pub held_of : List ℕ → Thresholds
held_of l = record { count = length l; at = each places (λ j. get_or l j 0) }

-- no list
unfoldable pub no_list : Thresholds
no_list = record { count = 0; at = each places (λ j. 0) }

-- the built-in list: the first is one interval, 2^24 units, and each next is twice the one before; there are fifteen, and zeros past them
unfoldable pub doubled : ℕ → ℕ
doubled zero = 2 ^ 24
doubled (suc j) = 2 * doubled j

abbrev pub built_in_count : ℕ
built_in_count = 15

unfoldable pub built_in_list : Thresholds
built_in_list = record { count = built_in_count; at = each places (up_to built_in_count doubled) }

-- a place that is not zero
abbrev pub filled : Thresholds → ℕ → Bool
filled t j = ltb 0 (threshold_of t j)

-- 19: a length outside 14 to 24; or a place past it that is not zero, for then it is not how many there are
unfoldable pub wrong_length : Thresholds → Bool
wrong_length t = ltb t.count fewest || (ltb places t.count || some_from t.count places (filled t))

-- 20: an entry that is not above the one before, or more than twice it
abbrev pub wrong_pair : (before c : ℕ) → Bool
wrong_pair before c = leb c before || ltb (2 * before) c

unfoldable pub wrong_entry : Thresholds → Bool
wrong_entry t = some_below (t.count - 1) (λ j. wrong_pair (threshold_of t j) (threshold_of t (j + 1)))

-- 21: a first entry outside 2^22 to 2^24, or a last one outside 2^37 to 2^39
abbrev pub outside : (least most c : ℕ) → Bool
outside least most c = ltb c least || ltb most c

unfoldable pub wrong_end : Thresholds → Bool
wrong_end t = outside (2 ^ 22) (2 ^ 24) (threshold_of t 0) || outside (2 ^ 37) (2 ^ 39) (threshold_of t (t.count - 1))

-- the rules of a list, in their order of testing
unfoldable pub list_rules : Thresholds → List Rule
list_rules t = (19, wrong_length t) ∷ (20, wrong_entry t) ∷ (21, wrong_end t) ∷ []

-- a list that would not load
unfoldable pub unloadable : Thresholds → Bool
unloadable t = wrong_length t || (wrong_entry t || wrong_end t)
