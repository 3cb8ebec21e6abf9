-- Why a call is refused: METHOD.md, "Why a call is refused". Each condition under its own name; the lists are in the order of testing.
use Rattle.std.specs.Prelude.{Bool, not, List, [], ◌∷◌, ◌++◌, ℕ, ◌+◌, eqb, ltb, ℤ, length}
use Rattle.level.specs.Types.{most_samples}
use Rattle.thresholds.specs.Lists.{places, list_rules, unloadable}
use Rattle.thresholds.specs.Places.{some_below, some_from}
use Rattle.rate.specs.Rates.{is_named}
use Rattle.refusal.specs.First.{Rule}
use Rattle.block.specs.Block.{count, before}
use Rattle.block.specs.Refusals.{block_rules}
use Rattle.possible.specs.Impossible.{any_of, impossible_sums, impossible_counter, filled_counter}
use Rattle.setting.specs.declared.Setting.{Setting}
use Rattle.setting.specs.Settings.{i_of, wrong_margin}
use Rattle.meter.specs.declared.Meter.{Meter}

-- 1: a code that names no rate; 17, a margin outside its range, is `wrong_margin` of the setting's crate
unfoldable pub unnamed_code : Setting → Bool
unnamed_code c = not (is_named c.code)

-- 2: a meter no measurement could hold
unfoldable pub impossible : Meter → Bool
impossible m =
    any_of
    (unnamed_code m.setting
    ∷ unloadable m.setting.thresholds
    ∷ wrong_margin m.setting.margin.0
    ∷ impossible_sums m.state.sums
    ∷ some_below m.setting.thresholds.count (impossible_counter (i_of m.setting) m.state)
    ∷ some_from m.setting.thresholds.count places (filled_counter m.state)
    ∷ [])

-- 3: a chunk above 4096
unfoldable pub long_chunk : List ℤ → Bool
long_chunk xs = ltb 4096 (length xs)

-- 10: the samples before a block are not n
unfoldable pub wrong_place : Meter → List ℕ → Bool
wrong_place m b = not (eqb (before b) m.state.sums.n.0)

-- 11: the new samples would take n past 2^48
unfoldable pub too_many : Meter → ℕ → Bool
too_many m new = ltb most_samples (m.state.sums.n.0 + new)

unfoldable pub open_rules : Setting → List Rule
open_rules c = (1, unnamed_code c) ∷ (17, wrong_margin c.margin.0) ∷ list_rules c.thresholds

unfoldable pub chunk_rules : Meter → List ℤ → List Rule
chunk_rules m xs = (2, impossible m) ∷ (3, long_chunk xs) ∷ (11, too_many m (length xs)) ∷ []

unfoldable pub block_call_rules : Meter → List ℕ → List Rule
block_call_rules m b =
    ((2, impossible m) ∷ block_rules b m.setting.code) ++ ((10, wrong_place m b) ∷ (11, too_many m (count b)) ∷ [])
