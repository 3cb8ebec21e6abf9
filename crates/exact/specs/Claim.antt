-- The whole claim: the customer's three demands, what his scope says beside them of the logarithm and of the rates, and of his requests the two that are
-- theorems of their own. Each is stated where it is imported from. What is in quotes are his words.
use Rattle.std.specs.Prelude.{true, false, List, ◌≡◌, ℕ, ◌^◌, ◌≤◌, ℤ}
use Rattle.level.specs.Logarithm.{lev, Facts}
use Rattle.rate.specs.Rates.{is_named, row_of, Ceiling, Keeps}
use Rattle.thresholds.specs.declared.Thresholds.{Thresholds}
use Rattle.setting.specs.declared.Setting.{Setting}
use Rattle.meter.specs.declared.Meter.{Meter}
use Rattle.meter.specs.Answered.{LevelsExist}
use Rattle.meter.specs.Refusals.{impossible}
use Rattle.exact.specs.Calls.{Call, Typed}
use Rattle.exact.specs.Demands.{TypedOffset, Opens, Demand1, Demand2, Demand3}
use Rattle.exact.specs.Envelope.{EnvelopeBound}
use Rattle.exact.specs.TwoCards.{OneLine, TwoCards}

pub record Claim : Type 0 where
  pub demand1 : Demand1
  pub demand2 : Demand2
  pub demand3 : (c : Setting) (calls : List Call) → TypedOffset c → Opens c → Typed calls → Demand3 c calls
  -- "The meter rests on three facts about lev"; and of numbers that have no level, "a report never meets it"
  pub facts : Facts lev
  pub levels_exist : (m : Meter) → impossible m ≡ false → LevelsExist m
  -- K "keeps T within Table 2's 5 %", "I is 0.2 s rounded up to samples", and D "is the smallest whole number not below 2^21/K"
  pub rates : (code : ℕ) → is_named code ≡ true → Keeps (row_of code)
  -- L9: the envelope's error is a fact "about any K from 1 to 2^20, of which the five rates are uses"
  pub envelope : (t : Thresholds) (K I D : ℕ) (o : ℤ) (xs : List ℤ) → 1 ≤ K → K ≤ 2 ^ 20 → Ceiling (2 ^ 21) K D → EnvelopeBound t K I D o xs
  -- L7: "We want this shown for all lengths and all whole d"
  pub two_cards : (d : ℕ) (c c' : Setting) (calls calls' : List Call) → TypedOffset c → Typed calls → Typed calls' → OneLine d c c' calls calls'
      → TwoCards d c c' calls calls'
