-- What is given: `given` for any rules none of which is numbered 0, and `lowest` where their numbers rise. `here`, `past` and `none` follow a call
-- through its tests.
use mathlib.Core.Bool.{Bool, true, false, cond, ◌&&◌, ◌||◌, and-false, or-true, true≢false}
use mathlib.Core.List.{List, [], ◌∷◌, ◌++◌}
use mathlib.Core.Path.{◌≡◌, refl, sym, ap, subst, ◌∙◌}
use Prim.Native.Nat.{ℕ, ◌≤◌, ◌<◌}
use native.Mathlib.Nat.{le_antisymm, le_of_eq, le_of_lt, pos_of_ne-zero}
use native.Mathlib.Omega.{arith}
use borrow.Author.Tests.{eqb-true, eq-eqb, ltb-true, lt-ltb}
use lib.Dec.{T, eqb, ltb, lit<}
use lib.ListN.{get_or}
use Rattle.refusal.specs.declared.Refusal.{Refusal}
use Rattle.refusal.specs.declared.Refusal.TheVariants.{UnnamedRate, ImpossibleMeter, LongChunk, BlockLength, BlockCheck, BlockKind, BlockRate, BlockCount, BlockUnused, BlockPlace, TooManySamples, NoSamples, NoSignal, NoActivity, NoCrossingBelow, NoCrossingAbove, WrongMargin, UnwritableSamples, ListLength, ListEntry, ListEnd}
use Rattle.refusal.specs.Number.{number_of}
use Rattle.refusal.specs.First.{Rule, first_of, NoneApplies, applies, numbered, rising, Given, Lowest}

pub here : (k : ℕ) (b : Bool) (rest : List Rule) → b ≡ true → k ≡ first_of ((k, b) ∷ rest)
unfolding first_of
here k b rest e = sym (simp e)

pub past : {n : ℕ} (k : ℕ) (b : Bool) (rest : List Rule) → b ≡ false → n ≡ first_of rest → n ≡ first_of ((k, b) ∷ rest)
unfolding first_of
past k b rest e h = h ∙ sym (simp e)

pub none : 0 ≡ first_of []
unfolding first_of
none = refl

-- both of two tests that hold together
pub both : (x y : Bool) → x && y ≡ true → (x ≡ true) × (y ≡ true)
both true y h = (refl, h)
both false y h = absurd (subst T (sym h) tt)

-- ---- any rules none of which is numbered 0

pub given : (rules : List Rule) → numbered rules ≡ true → Given rules (first_of rules)
unfolding first_of NoneApplies numbered
given [] n = record { refused = λ h. absurd (omega arith); accepted = (λ z. tt, λ u. refl) }
given ((k, true) ∷ rest) n =
    record {
      refused = λ h. record { before = []; after = rest; parts = refl; none_before = tt };
      accepted = (λ z. absurd (omega (arith, ltb-true 0 k (both (ltb 0 k) (numbered rest) n).0)), λ p. absurd (subst T p.0 tt));
    }
given ((k, false) ∷ rest) n =
    let g = given rest (both (ltb 0 k) (numbered rest) n).1 in
    record {
      refused = λ h. let d = g.refused h in record {
        before = (k, false) ∷ d.before;
        after = d.after;
        parts = ap (λ (l : List Rule). (k, false) ∷ l) d.parts;
        none_before = (refl, d.none_before);
      };
      accepted = (λ z. (refl, g.accepted.0 z), λ p. g.accepted.1 p.1);
    }

-- ---- rules whose numbers rise

pub rising_numbered : (n : ℕ) (rules : List Rule) → rising n rules ≡ true → numbered rules ≡ true
unfolding rising numbered
rising_numbered n [] s = refl
rising_numbered n (r ∷ rest) s =
    let p = both (ltb n r.0) (rising r.0 rest) s in
    simp (lt-ltb 0 r.0 (omega (arith, ltb-true n r.0 p.0)), rising_numbered r.0 rest p.1)

-- those from above n apply only above n
above_start : (n k : ℕ) (rules : List Rule) → rising n rules ≡ true → applies rules k ≡ true → n < k
unfolding rising applies
above_start n k [] r a = absurd (subst T (sym a) tt)
above_start n k (r ∷ rest) s a = go (eqb r.0 k) refl r.1 a (λ b. above_start r.0 k rest p.1 b)
  where
    p : (ltb n r.0 ≡ true) × (rising r.0 rest ≡ true)
    p = both _ _ s

    go : (t : Bool) → eqb r.0 k ≡ t → (b : Bool) → (t && b) || applies rest k ≡ true → (applies rest k ≡ true → r.0 < k) → n < k
    go true e true h f = omega (arith, eqb-true r.0 k e, ltb-true n r.0 p.0)
    go true e false h f = omega (arith, f h, ltb-true n r.0 p.0)
    go false e b h f = omega (arith, f h, ltb-true n r.0 p.0)

-- so the first that applies is the lowest
pub lowest : (n : ℕ) (rules : List Rule) → rising n rules ≡ true → Lowest rules (first_of rules)
unfolding rising applies first_of
lowest n [] s k a = absurd (subst T (sym a) tt)
lowest n (r ∷ rest) s k a = go r.1 a (λ h. lowest r.0 rest p.1 k h)
  where
    p : (ltb n r.0 ≡ true) × (rising r.0 rest ≡ true)
    p = both _ _ s

    first : (t b : Bool) → eqb r.0 k ≡ t → (t && b) || applies rest k ≡ true → r.0 ≤ k
    first true b e h = le_of_eq (eqb-true r.0 k e)
    first false b e h = le_of_lt (above_start r.0 k rest p.1 h)

    go : (b : Bool) → (eqb r.0 k && b) || applies rest k ≡ true → (applies rest k ≡ true → first_of rest ≤ k) → cond b r.0 (first_of rest) ≤ k
    go true h f = first (eqb r.0 k) true refl h
    go false h f = f (sym (ap (λ (x : Bool). x || applies rest k) (and-false (eqb r.0 k))) ∙ h)

pub given_lowest : (rules : List Rule) → rising 0 rules ≡ true → Given rules (first_of rules) × Lowest rules (first_of rules)
given_lowest rules s = (given rules (rising_numbered 0 rules s), lowest 0 rules s)

-- ---- what is given is the lowest that applies

none_apply : (rules : List Rule) → NoneApplies rules → (i : ℕ) → applies rules i ≡ false
unfolding NoneApplies applies
none_apply [] n i = refl
none_apply (r ∷ rest) n i = simp (n.0, and-false (eqb r.0 i), none_apply rest n.1 i)

decides_applies : (before : List Rule) (k : ℕ) (after : List Rule) → applies (before ++ ((k, true) ∷ after)) k ≡ true
unfolding applies
decides_applies [] k after = simp (eq-eqb k k refl)
decides_applies (r ∷ before) k after = ap (λ (b : Bool). (eqb r.0 k && r.1) || b) (decides_applies before k after) ∙ or-true (eqb r.0 k && r.1)

pub lowest_given : {rules : List Rule} {k : ℕ} → Given rules k × Lowest rules k → (i : ℕ) → applies rules i ≡ true → Lowest rules i → k ≡ i
lowest_given {rules} {k} g i a l = le_antisymm (g.1 i a) (l k (given_applies (pos_of_ne-zero some)))
  where
    some : k ≡ 0 → ⊥
    some z = absurd (true≢false (sym a ∙ none_apply rules (g.0.accepted.0 z) i))

    given_applies : 0 < k → applies rules k ≡ true
    given_applies h = let d = g.0.refused h in ap (λ (l : List Rule). applies l k) d.parts ∙ decides_applies d.before k d.after

-- ---- the numbers of the refusals

refusals : List Refusal
refusals = UnnamedRate ∷ ImpossibleMeter ∷ LongChunk ∷ BlockLength ∷ BlockCheck ∷ BlockKind ∷ BlockRate ∷ BlockCount ∷ BlockUnused ∷ BlockPlace ∷ TooManySamples ∷ NoSamples ∷ NoSignal ∷ NoActivity ∷ NoCrossingBelow ∷ NoCrossingAbove ∷ WrongMargin ∷ UnwritableSamples ∷ ListLength ∷ ListEntry ∷ ListEnd ∷ []

-- each stands in the list where its number says, counted from 1
listed : (why : Refusal) → (get_or (UnnamedRate ∷ refusals) (number_of why) UnnamedRate ≡ why) × T (ltb 0 (number_of why))
unfolding refusals
listed UnnamedRate = (refl, tt)
listed ImpossibleMeter = (refl, tt)
listed LongChunk = (refl, tt)
listed BlockLength = (refl, tt)
listed BlockCheck = (refl, tt)
listed BlockKind = (refl, tt)
listed BlockRate = (refl, tt)
listed BlockCount = (refl, tt)
listed BlockUnused = (refl, tt)
listed BlockPlace = (refl, tt)
listed TooManySamples = (refl, tt)
listed NoSamples = (refl, tt)
listed NoSignal = (refl, tt)
listed NoActivity = (refl, tt)
listed NoCrossingBelow = (refl, tt)
listed NoCrossingAbove = (refl, tt)
listed WrongMargin = (refl, tt)
listed UnwritableSamples = (refl, tt)
listed ListLength = (refl, tt)
listed ListEntry = (refl, tt)
listed ListEnd = (refl, tt)

-- every refusal has a number above 0, and no two have the same
pub positive : (why : Refusal) → 0 < number_of why
positive why = lit< (listed why).1

pub different : (x y : Refusal) → number_of x ≡ number_of y → x ≡ y
different x y e = sym (listed x).0 ∙ ap (λ (k : ℕ). get_or (UnnamedRate ∷ refusals) k UnnamedRate) e ∙ (listed y).0

-- ---- two lists in one: the first decides where one of its rules applies, else the second

pub append_first : (k : ℕ) (rules more : List Rule) → 0 < k → k ≡ first_of rules → k ≡ first_of (rules ++ more)
unfolding first_of
append_first k [] more l e = absurd (omega arith)
append_first k (r ∷ rest) more l e = go r.1 e (λ h. append_first k rest more l h)
  where
    go : (b : Bool) → k ≡ cond b r.0 (first_of rest) → (k ≡ first_of rest → k ≡ first_of (rest ++ more)) → k ≡ cond b r.0 (first_of (rest ++ more))
    go true h f = h
    go false h f = f h

pub append_past : (n : ℕ) (rules more : List Rule) → rising n rules ≡ true → 0 ≡ first_of rules → first_of more ≡ first_of (rules ++ more)
unfolding first_of rising
append_past n [] more s e = refl
append_past n (r ∷ rest) more s e = go r.1 e (λ h. append_past r.0 rest more p.1 h)
  where
    p : (ltb n r.0 ≡ true) × (rising r.0 rest ≡ true)
    p = both _ _ s

    go : (b : Bool) → 0 ≡ cond b r.0 (first_of rest) → (0 ≡ first_of rest → first_of more ≡ first_of (rest ++ more)) → first_of more ≡ cond b r.0 (first_of (rest ++ more))
    go true h f = absurd (omega (arith, ltb-true n r.0 p.0))
    go false h f = f h
