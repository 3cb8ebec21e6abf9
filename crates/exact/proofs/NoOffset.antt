-- With offset 0 the size of a sample is |x|, and its square x·x; the rest of a step is the same.
use mathlib.Core.List.{List, [], ◌∷◌}
use mathlib.Core.Path.{◌≡◌, refl, sym, ap, ap₂, ◌∙◌}
use Prim.Native.Nat.{ℕ, ◌+◌, ◌*◌, ◌^◌}
use lib.IntN.{ℤ, pos, negsuc, nat_abs, ◌+ℤ◌, ◌*ℤ◌, +ℤ_idr, pos-*ℤ-pos, negsuc-*ℤ-negsuc}
use Rattle.level.specs.Types.{samples_of, two_words, words}
use Rattle.thresholds.specs.declared.Thresholds.{Thresholds}
use Rattle.thresholds.specs.Lists.{threshold_of}
use Rattle.setting.specs.Settings.{k_of, i_of}
use Rattle.sample.specs.declared.Counting.{Counting}
use Rattle.sample.specs.declared.State.{State}
use Rattle.sample.specs.declared.Sums.{Sums}
use Rattle.sample.specs.Envelope.{smooth, size, rectified}
use Rattle.sample.specs.Sample.{fresh_state, summed, counts, hangovers, state_after_one, state_after}
use Rattle.meter.specs.Calls.{fresh, counting_of, after_samples}
use Rattle.exact.specs.NoOffset.{raw_sums, raw_after_one, raw_after, NoOffset}

size_is : (x : ℤ) → size (pos 0) x ≡ nat_abs x
unfolding size
size_is x = ap nat_abs (+ℤ_idr x)

square_is : (x : ℤ) → nat_abs x * nat_abs x ≡ nat_abs (x *ℤ x)
square_is (pos n) = sym (ap nat_abs (pos-*ℤ-pos n n))
square_is (negsuc n) = sym (ap nat_abs (negsuc-*ℤ-negsuc n n))

abbrev raw : (K I : ℕ) → Counting
raw K I = record { k = K; i = I; offset = pos 0 }

sums_are : (K I : ℕ) (m : Sums) (x : ℤ) → summed (raw K I) m x ≡ raw_sums K m x
unfolding summed raw_sums rectified smooth
sums_are K I m x = ap₂ sums (size_is x) (ap (λ (y : ℕ). y * y) (size_is x) ∙ square_is x)
  where
    -- the sums after a sample of some size and square
    sums : (y z : ℕ) → Sums
    sums y z =
        let P = smooth K m.p (y * 2 ^ 24) in
        record { n = samples_of (m.n.0 + 1); s = m.s +ℤ x; sq = words (two_words m.sq + z); p = P; q = smooth K m.q P }

after_is : (T : Thresholds) (K I : ℕ) (xs : List ℤ) (m : State) → state_after (raw K I) T m xs ≡ raw_after T K I m xs
unfolding state_after raw_after state_after_one raw_after_one
after_is T K I [] m = refl
after_is T K I (x ∷ xs) m =
    ap (λ (s : Sums). state_after (raw K I) T (record { sums = s; a = counts (threshold_of T) T.count I s.q m.a m.h; h = hangovers (threshold_of T) T.count I s.q m.h }) xs)
    (sums_are K I m.sums x)
    ∙ after_is T K I xs (raw_after_one T K I m x)

pub no_offset : NoOffset
unfolding after_samples fresh counting_of
no_offset c xs e =
    ap (λ (o : ℤ). state_after (record { k = k_of c; i = i_of c; offset = o }) c.thresholds (fresh_state c.thresholds.count (i_of c)) xs) e
    ∙ after_is c.thresholds (k_of c) (i_of c) xs (fresh_state c.thresholds.count (i_of c))
