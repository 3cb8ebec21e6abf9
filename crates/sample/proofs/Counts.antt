-- Lists of counts, by their places.
use mathlib.Core.List.{List}
use mathlib.Core.Path.{◌≡◌, refl, ap, ◌∙◌, sym}
use Prim.Native.Nat.{ℕ, ◌≤◌, ◌<◌}
use native.Mathlib.Omega.{arith}
use borrow.Author.Tests.{ltb-true, ltb-false}
use mathlib.Core.Bool.{Bool, true, false}
use lib.Dec.{ltb}
use lib.ListN.{length}
use Rattle.level.specs.declared.Samples.{Samples}
use Rattle.level.specs.Types.{samples_of, activity}
use Rattle.thresholds.specs.Lists.{places}
use Rattle.thresholds.proofs.Places.{each_at, each_same, is_each, up_to_at, up_to_past, up_to_same}
use Rattle.sample.specs.Sample.{each, up_to}

-- the first k counts are f's, and the others 0
abbrev pub first_counts : (k : ℕ) → (ℕ → ℕ) → List Samples
first_counts k f = each places (λ j. samples_of (up_to k f j))

pub count_at : (k : ℕ) (f : ℕ → ℕ) (j : ℕ) → k ≤ places → j < k → activity (first_counts k f) j ≡ f j
count_at k f j m l = ap (λ (n : Samples). n.0) (each_at (samples_of 0) places (λ i. samples_of (up_to k f i)) j (omega arith)) ∙ up_to_at k f j l

pub counts_same : (k : ℕ) (f g : ℕ → ℕ) → ((i : ℕ) → i < k → f i ≡ g i) → first_counts k f ≡ first_counts k g
counts_same k f g e = each_same places _ _ (λ j l. ap samples_of (up_to_same k f g e j))

pub are_counts : (k : ℕ) (a : List Samples) (f : ℕ → ℕ) → places ≡ length a → ((i : ℕ) → i < k → activity a i ≡ f i) → ((i : ℕ) → k ≤ i → activity a i ≡ 0) → a ≡ first_counts k f
are_counts k a f e g z = is_each (samples_of 0) places a (λ i. samples_of (up_to k f i)) e (λ i h. ap samples_of (go i (ltb i k) refl))
  where
    go : (i : ℕ) (t : Bool) → ltb i k ≡ t → activity a i ≡ up_to k f i
    go i true h = let b = ltb-true i k h in g i b ∙ sym (up_to_at k f i b)
    go i false h = let b = ltb-false i k h in z i b ∙ sym (up_to_past k f i b)
