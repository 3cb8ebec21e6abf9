-- Counters over a run: closed forms for one, and the lists place by place.
use mathlib.Core.Bool.{Bool, true, false}
use mathlib.Core.List.{List}
use mathlib.Core.Logic.{⊎_elim}
use mathlib.Core.Path.{◌≡◌, refl, ap, ap₂, ◌∙◌, sym}
use Prim.Native.Nat.{ℕ, zero, suc, ◌+◌, ◌-◌, ◌≤◌, ◌<◌, min}
use native.Mathlib.Nat.{add-zero}
use native.Mathlib.Omega.{arith}
use lib.Dec.{leb}
use lib.ListN.{get_or}
use Rattle.sample.specs.Activity.{counted, hung}
use Rattle.sample.specs.Sample.{counts, hangovers}
use Rattle.sample.specs.Inner.Bands.{Clear}
use Rattle.sample.specs.Inner.Over.{count_over, hangover_over}
use Rattle.sample.specs.Inner.Runs.{counts_by, hangovers_by}
use Rattle.std.proofs.lemmas.Bool.Decides.{nat_tests}
use Rattle.level.specs.declared.Samples.{Samples}
use Rattle.level.specs.Types.{activity}
use Rattle.sample.proofs.Activity.{counted_le, hung_le}
use Rattle.sample.proofs.Counts.{count_at, counts_same}
use Rattle.thresholds.specs.Lists.{places}
use Rattle.thresholds.proofs.Places.{filled_at, filled_same}

-- ---- on: every sample counts

pub on_count : (I : ℕ) (on : Bool) (d a h : ℕ) → on ≡ true → a + d ≡ count_over I on d a h
unfolding count_over counted
on_count I on zero a h e = add-zero a
on_count I on (suc d) a h e = grind (arith, nat_tests, on_count I on d a h e)

pub on_hangover : (I : ℕ) (on : Bool) (d h : ℕ) → on ≡ true → (d ≡ 0 → ⊥) → 0 ≡ hangover_over I on d h
unfolding hangover_over hung
on_hangover I on zero h e z = absurd (z refl)
on_hangover I on (suc d) h e z = grind (arith, nat_tests)

-- ---- off: those that the hangover has left

hangover_off : (I : ℕ) (on : Bool) (d h : ℕ) → on ≡ false → h ≤ I → hangover_over I on d h ≡ h + min d (I - h)
unfolding hangover_over hung
hangover_off I on zero h e l = omega arith
hangover_off I on (suc d) h e l = grind (arith, nat_tests, hangover_off I on d h e l)

count_off : (I : ℕ) (on : Bool) (d a h : ℕ) → on ≡ false → h ≤ I → count_over I on d a h ≡ a + min d (I - h)
unfolding count_over counted
count_off I on zero a h e l = omega arith
count_off I on (suc d) a h e l = grind (arith, nat_tests, count_off I on d a h e l, hangover_off I on d h e l)

pub off_hangover : (I : ℕ) (on : Bool) (d h m : ℕ) → on ≡ false → h ≤ I → m ≡ min d (I - h) → h + m ≡ hangover_over I on d h
off_hangover I on d h m e l q = omega (arith, hangover_off I on d h e l)

pub off_count : (I : ℕ) (on : Bool) (d a h m : ℕ) → on ≡ false → h ≤ I → m ≡ min d (I - h) → a + m ≡ count_over I on d a h
off_count I on d a h m e l q = omega (arith, count_off I on d a h e l)

-- an empty run changes nothing
pub no_count_lem : (I : ℕ) (on : Bool) (d a h : ℕ) → d ≡ 0 → count_over I on d a h ≡ a
unfolding count_over
no_count_lem I on d a h e = ap (λ (x : ℕ). count_over I on x a h) e

pub no_hangover : (I : ℕ) (on : Bool) (d h : ℕ) → d ≡ 0 → hangover_over I on d h ≡ h
unfolding hangover_over
no_hangover I on d h e = ap (λ (x : ℕ). hangover_over I on x h) e

-- ---- bounds

pub count_over_le : (I : ℕ) (on : Bool) (d a h : ℕ) → count_over I on d a h ≤ a + d
unfolding count_over
count_over_le I on zero a h = omega arith
count_over_le I on (suc d) a h = omega (arith, counted_le I on (count_over I on d a h) (hangover_over I on d h), count_over_le I on d a h)

pub hangover_over_le : (I : ℕ) (on : Bool) (d h : ℕ) → h ≤ I → hangover_over I on d h ≤ I
unfolding hangover_over
hangover_over_le I on zero h l = l
hangover_over_le I on (suc d) h l = hung_le I on (hangover_over I on d h) (hangover_over_le I on d h l)

-- ---- two envelopes in one band are on the same side of every threshold

pub same_side : (c : ℕ → ℕ) (k low high Q R : ℕ) → Clear c k low high → low ≤ Q → Q < high → low ≤ R → R < high → (j : ℕ) → j < k → leb (c j) Q ≡ leb (c j) R
same_side c k low high Q R clear lq qh lr rh j b = ⊎_elim (λ l. grind (arith, nat_tests)) (λ l. grind (arith, nat_tests)) (clear.side j b)

-- ---- one sample more, at an envelope q on the same sides as Q

module _ (c : ℕ → ℕ) (k : ℕ) (few : k ≤ places) (I Q q i : ℕ) (since : List ℕ) (a : List Samples) (h : List ℕ) (s : (j : ℕ) → j < k → leb (c j) q ≡ leb (c j) Q) (before : (j : ℕ) → get_or since j 0 ≤ i) where
  later : (j : ℕ) → i + 1 - get_or since j 0 ≡ suc (i - get_or since j 0)
  later j = omega (arith, before j)

  pub one_hangovers : hangovers c k I q (hangovers_by c k I Q i since h) ≡ hangovers_by c k I Q (i + 1) since h
  unfolding hangovers hangovers_by hangover_over
  one_hangovers =
      filled_same places k _ _ (λ j l.
      ap₂ (λ (b : Bool) (x : ℕ). hung I b x) (s j l) (filled_at places k _ j few l)
      ∙ sym (ap (λ (d : ℕ). hangover_over I (leb (c j) Q) d (get_or h j 0)) (later j)))

  pub one_counts : counts c k I q (counts_by c k I Q i since a h) (hangovers_by c k I Q i since h) ≡ counts_by c k I Q (i + 1) since a h
  unfolding counts counts_by hangovers_by count_over
  one_counts =
      counts_same k _ _ (λ j l.
      ap₂ (λ (x y : ℕ). counted I (leb (c j) q) x y) (count_at k _ j few l) (filled_at places k _ j few l)
      ∙ ap (λ (b : Bool). counted I b (count_over I (leb (c j) Q) (i - get_or since j 0) (activity a j) (get_or h j 0)) (hangover_over I (leb (c j) Q) (i - get_or since j 0) (get_or h j 0))) (s j l)
      ∙ sym (ap (λ (d : ℕ). count_over I (leb (c j) Q) d (activity a j) (get_or h j 0)) (later j)))
