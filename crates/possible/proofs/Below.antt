-- One of several conditions: from each to all, and from all to each. And a condition on two neighbours, at the second of them.
use mathlib.Core.Bool.{Bool, false, ◌&&◌}
use mathlib.Core.List.{List, [], ◌∷◌}
use mathlib.Core.Path.{◌≡◌, refl, ap₂}
use Prim.Native.Nat.{ℕ, suc, ◌-◌}
use native.Mathlib.Omega.{arith}
use borrow.Author.Tests.{le-leb}
use lib.Dec.{leb}
use Rattle.std.proofs.lemmas.Bool.{or_parts}
use Rattle.possible.specs.Impossible.{any_of}

-- after the first place there is one before
pub after_first : (j : ℕ) (f : ℕ → Bool) → leb 1 (suc j) && f (suc j - 1) ≡ f j
after_first j f = ap₂ (λ (b : Bool) (i : ℕ). b && f i) (le-leb 1 (suc j) (omega arith)) (omega arith)

-- none of several conditions holds
unfoldable pub NoneOf : List Bool → Type 0
NoneOf [] = Unit {0}
NoneOf (b ∷ rest) = (b ≡ false) × NoneOf rest

pub none_of : (l : List Bool) → any_of l ≡ false → NoneOf l
unfolding any_of NoneOf
none_of [] h = tt
none_of (b ∷ rest) h = let n = or_parts b (any_of rest) h in (n.0, none_of rest n.1)

pub of_none : (l : List Bool) → NoneOf l → any_of l ≡ false
unfolding any_of NoneOf
of_none [] n = refl
of_none (b ∷ rest) n = simp (n.0, of_none rest n.1)
