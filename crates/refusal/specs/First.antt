-- Which number is given: METHOD.md, "Why a call is refused". A call has a list of rules in their order of testing, and the first that applies
-- decides.
use Rattle.std.specs.Prelude.{Bool, true, false, cond, ◌&&◌, ◌||◌, List, [], ◌∷◌, ◌++◌, ◌↔◌, ◌≡◌, ℕ, ◌≤◌, ◌<◌, eqb, ltb}

-- a refusal's number, and whether its condition holds
abbrev pub Rule : Type 0
Rule = ℕ × Bool

-- the number of the first rule that applies; 0, accepted, where none does
unfoldable pub first_of : List Rule → ℕ
first_of [] = 0
first_of (r ∷ rest) = cond r.1 r.0 (first_of rest)

-- no rule of a list applies
unfoldable pub NoneApplies : List Rule → Type 0
NoneApplies [] = Unit {0}
NoneApplies (r ∷ rest) = (r.1 ≡ false) × NoneApplies rest

-- whether the rule of a number applies
unfoldable pub applies : List Rule → ℕ → Bool
applies [] k = false
applies (r ∷ rest) k = (eqb r.0 k && r.1) || applies rest k

-- no rule has the number 0
unfoldable pub numbered : List Rule → Bool
numbered [] = true
numbered (r ∷ rest) = ltb 0 r.0 && numbered rest

-- the numbers rise along a list, from above n
unfoldable pub rising : ℕ → List Rule → Bool
rising n [] = true
rising n (r ∷ rest) = ltb n r.0 && rising r.0 rest

-- k is the number of a rule that applies, and no rule before it does
pub record Decides (rules : List Rule) (k : ℕ) : Type 0 where
  pub before : List Rule
  pub after : List Rule
  pub parts : rules ≡ before ++ ((k, true) ∷ after)
  pub none_before : NoneApplies before

-- what a number given says of the rules: it is that of the first that applies, and 0 exactly where none does
pub record Given (rules : List Rule) (k : ℕ) : Type 0 where
  pub refused : 0 < k → Decides rules k
  pub accepted : (k ≡ 0) ↔ NoneApplies rules

-- and that it is the lowest of those that apply
abbrev pub Lowest : List Rule → ℕ → Type 0
Lowest rules k = (i : ℕ) → applies rules i ≡ true → k ≤ i
