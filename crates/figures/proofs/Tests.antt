-- Tests that compute, each with what it shows where it passes.
use mathlib.Core.Bool.{Bool, true, false, not, ◌&&◌, and-eq-true_iff, true≢false, false≢true}
use mathlib.Core.List.{List, [], ◌∷◌}
use Rattle.std.specs.Prelude.{Option, Some, None}
use mathlib.Core.Path.{◌≡◌, refl}
use Prim.Native.Nat.{ℕ, ◌≤◌}
use lib.Dec.{eqb, leb}
use lib.IntN.{ℤ, pos, negsuc}
use borrow.Author.Tests.{not-true, eqb-true, leb-true}

-- a test for P
pub record Test (P : Type 0) : Type 0 where
  pub passes : Bool
  pub shows : passes ≡ true → P

infixr 3 ◌and◌
infixl 4 ◌on◌
-- a test for what follows from P
abbrev pub via : {P Q : Type 0} → (P → Q) → Test P → Test Q
via f t = record { passes = t.passes; shows = λ e. f (t.shows e) }

-- two tests at once
abbrev pub ◌and◌ : {P Q : Type 0} → Test P → Test Q → Test (P × Q)
s and t =
    record {
      passes = s.passes && t.passes;
      shows = λ e. let h = (and-eq-true_iff s.passes t.passes).0 e in (s.shows h.0, t.shows h.1);
    }

-- what holds has a test that always passes, and what does not hold one that never does
abbrev pub always : {P : Type 0} → P → Test P
always p = record { passes = true; shows = λ e. p }

abbrev pub never : {P : Type 0} → Test P
never = record { passes = false; shows = λ e. absurd (false≢true e) }

-- a test that comes out true, or false; and one that is only asked where another comes out false
abbrev pub is : (b : Bool) → Test (b ≡ true)
is b = record { passes = b; shows = λ e. e }

abbrev pub is_not : (b : Bool) → Test (b ≡ false)
is_not b = record { passes = not b; shows = not-true b }

abbrev pub unless : {P : Type 0} (b : Bool) → Test P → Test (b ≡ false → P)
unless true t = record { passes = true; shows = λ e f. absurd (true≢false f) }
unless false t = record { passes = t.passes; shows = λ e f. t.shows e }

-- m ≤ n
abbrev pub at_most : (m n : ℕ) → Test (m ≤ n)
at_most m n = record { passes = leb m n; shows = leb-true m n }

-- tests of equality: a function is itself, and equal functions on equal arguments are equal
abbrev pub itself : {A : Type 0} (f : A) → Test (f ≡ f)
itself f = always refl

abbrev pub ◌on◌ : {A B : Type 0} {f g : A → B} {x y : A} → Test (f ≡ g) → Test (x ≡ y) → Test (f x ≡ g y)
s on t = via (λ h i. h.0 i (h.1 i)) (s and t)

abbrev pub Equality : Type 0 → Type 0
Equality A = (x y : A) → Test (x ≡ y)

abbrev pub same_number : Equality ℕ
same_number m n = record { passes = eqb m n; shows = eqb-true m n }

abbrev pub same_integer : Equality ℤ
same_integer (pos m) (pos n) = itself pos on same_number m n
same_integer (pos m) (negsuc n) = never
same_integer (negsuc m) (pos n) = never
same_integer (negsuc m) (negsuc n) = itself negsuc on same_number m n

abbrev pub same_answer : Equality Bool
same_answer true true = itself true
same_answer true false = never
same_answer false true = never
same_answer false false = itself false

module _ {A : Type 0} (same : Equality A) where
  abbrev pub same_list : Equality (List A)
  same_list [] [] = itself []
  same_list [] (y ∷ ys) = never
  same_list (x ∷ xs) [] = never
  same_list (x ∷ xs) (y ∷ ys) = itself ◌∷◌ on same x y on same_list xs ys

  abbrev pub sameOption : Equality (Option A)
  sameOption None None = itself None
  sameOption None (Some y) = never
  sameOption (Some x) None = never
  sameOption (Some x) (Some y) = itself Some on same x y
