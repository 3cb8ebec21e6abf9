-- A meter that refusal 2 lets pass is within the bounds of a sample.
use mathlib.Core.Logic.{⊎_elim}
use mathlib.Core.Path.{◌≡◌, sym, ap, subst, ◌∙◌}
use Prim.Native.Nat.{ℕ, ◌+◌, ◌≤◌, ◌<◌}
use native.Mathlib.Omega.{arith}
use lib.IntN.{ℤ}
use lib.ListN.{length, get_or, get_or-eq_default}
use native.Mathlib.Nat.{le_trans, le_of_eq}
use Rattle.std.proofs.Common.{rules, w16}
use Rattle.std.proofs.lemmas.Bool.{cases_lt}
use Rattle.std.proofs.lemmas.Int.{to_z-of_z}
use Rattle.level.specs.Types.{most_samples, samples_of, activity}
use Rattle.level.specs.declared.Samples.{Samples}
use Rattle.rate.specs.declared.Rate.{Rate}
use Rattle.rate.proofs.Laws.{row_is, row_keeps}
use Rattle.sample.specs.declared.Counting.{Counting}
use Rattle.sample.specs.declared.State.{State}
use Rattle.sample.specs.Sample.{state_after}
use Rattle.sample.specs.StateAfter.{Within}
use Rattle.setting.specs.Settings.{k_of, i_of}
use Rattle.thresholds.specs.Lists.{places}
use Rattle.thresholds.proofs.Laws.{loaded, rising}
use Rattle.meter.specs.Calls.{counting_of, after_samples}
use Rattle.meter.specs.Inner.{Usable}
use Rattle.meter.specs.declared.Meter.{Meter}
use Rattle.meter.proofs.Possible.{possible}
use Rattle.meter.proofs.Meter.after.Goals as goal

-- the arrays have their lengths, so past the list's end nothing is read
nothing_past : (f : ℕ → ℕ) (n k : ℕ) → ((j : ℕ) → n ≤ j → f j ≡ 0) → ((j : ℕ) → j < n → k ≤ j → f j ≤ 0) → (j : ℕ) → k ≤ j → f j ≡ 0
nothing_past f n k e z j h = ⊎_elim (λ l. omega (arith, z j l h)) (e j) (cases_lt j n)

-- what counting goes by at a rate and an offset
abbrev counting_at : Rate → (offset : ℤ) → Counting
counting_at r offset = record { k = r.k; i = r.i; offset = offset }

module _ (m : Meter) (r : Rate) (u : Usable m r) where
  by_is : (offset : ℤ) → offset ≡ m.setting.offset → counting_at r offset ≡ counting_of m.setting
  unfolding counting_of k_of i_of
  by_is offset e = ap (counting_at r) e ∙ ap (λ (q : Rate). counting_at q m.setting.offset) (sym (row_is m.setting.code r u.rate_is))

  within : (n : ℕ) → length m.state.a ≡ places → length m.state.h ≡ places → n ≤ 4096 → m.state.sums.n.0 + n ≤ most_samples → Within (counting_of m.setting) m.setting.thresholds n m.state
  unfolding counting_of k_of
  within n a h few room =
      let p = possible m u.possible in
      record {
        sums = record { n_max = p.n_max; s_max = p.s_max; sq_max = p.sq_max; p_max = p.p_max; q_max = p.q_max };
        list = rising m.setting.thresholds (loaded m.setting.thresholds p.list);
        a_max = p.a_max;
        h_max = p.h_max;
        a_past = nothing_past (activity m.state.a) places _ (λ j l. ap (λ (x : Samples). x.0) (get_or-eq_default m.state.a (samples_of 0) (le_trans (le_of_eq a) l))) p.a_past;
        h_past = nothing_past (λ j. get_or m.state.h j 0) places _ (λ j l. get_or-eq_default m.state.h 0 (le_trans (le_of_eq h) l)) p.h_past;
        k_max = (row_keeps m.setting.code p.named).k_high;
        room = room;
        few = omega arith;
      }

abbrev with_state : Meter → State → Meter
with_state m s = record { setting = m.setting; state = s }

pub after-requires : goal.after-requires
after-requires c =
    let m = c.args.self in
    let r = c.requires in
    subst (λ (by : Counting). Within by m.setting.thresholds (length c.args.xs.now) m.state)
    (sym (by_is m c.args.rate r.usable _ (to_z-of_z w16 _ (record { sfits = search rules }))))
    (within m c.args.rate r.usable _ (search rules) (search rules) r.few r.room)

pub returns : goal.returns
unfolding after_samples
returns c =
    let m = c.args.self in
    ap (with_state m)
    (c.after.ensures
    ∙ ap (λ (by : Counting). state_after by m.setting.thresholds m.state c.args.xs.now) (by_is m c.args.rate c.requires.usable _ (to_z-of_z w16 _ (record { sfits = search rules }))))
