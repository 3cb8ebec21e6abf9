-- Calls: the meter accepts what E accepts, and the tie is kept by every call, accepted or refused.
use mathlib.Core.Bool.{Bool, true, false, cond, not, ◌&&◌, ◌||◌}
use mathlib.Core.List.{List, [], ◌∷◌, ◌++◌}
use mathlib.Core.Logic.{◌↔◌}
use mathlib.Core.Path.{◌≡◌, refl, sym, ◌∙◌, ap, ap₂, subst}
use Prim.Native.Nat.{ℕ, zero, suc, ◌+◌, ◌*◌, ◌^◌, ◌≤◌, zero-le}
use native.Mathlib.Omega.{arith}
use borrow.Author.Tests.{ltb-false, le-ltb, le-leb, leb-true, eqb-true, eq-eqb, ne_eqb, not-false}
use lib.Dec.{T, eqb, leb}
use lib.IntN.{ℤ}
use lib.ListN.{length, get_or}
use mir.Syntax.{w16}
use mir.Val.{SFits}
use Rattle.level.specs.Types.{most_samples}
use Rattle.refusal.specs.First.{NoneApplies}
use Rattle.refusal.proofs.Laws.{both}
use Rattle.rate.specs.Rates.{row_of, is_named}
use Rattle.rate.proofs.Laws.{row_keeps}
use Rattle.setting.specs.declared.Setting.{Setting}
use Rattle.setting.specs.Settings.{k_of, i_of, usual_setting, wrong_margin}
use Rattle.coding.specs.Numbers.{number_at}
use Rattle.coding.specs.Samples.{samples_at}
use Rattle.coding.specs.Typed.{AllSamples}
use Rattle.coding.proofs.Laws.{signed_fits, samples_at_length}
use Rattle.block.specs.Block.{rate_code, count, before, samples_in}
use Rattle.block.specs.Refusals.{wrong_rate, block_rules, sound}
use Rattle.block.proofs.Laws.{sound_is, is_sound_lem}
use Rattle.sample.specs.declared.Counting.{Counting}
use Rattle.sample.specs.Envelope.{smoothing}
use Rattle.sample.specs.Sample.{fresh_state, state_after}
use Rattle.meter.specs.declared.Meter.{Meter}
use Rattle.meter.specs.Refusals.{unnamed_code, long_chunk, wrong_place, too_many, open_rules, chunk_rules, block_call_rules}
use Rattle.meter.specs.Calls.{fresh, counting_of, after_samples, open_call, chunk_call, block_call}
use Rattle.meter.proofs.Laws.{open_given, chunk_given, block_given, opened}
use Rattle.meter.proofs.Possible.{Possible, passes}
use Rattle.exact.specs.Calls.{Call, chunk, block, Typed, brought_by}
use Rattle.exact.specs.Demands.{TypedOffset, exact_at}
use Rattle.exact.specs.Exact.{E, start_at, start, take_all, accepts, fed, exactly, answers_of_e, took}
use Rattle.exact.specs.Lists.{called, accepted, after, answers, taken}
use Rattle.thresholds.specs.Lists.{built_in_list, wrong_length, wrong_entry, wrong_end, unloadable, list_rules}
use Rattle.std.proofs.lemmas.Bool.{or_parts}
use Rattle.thresholds.proofs.Laws.{built_in_loads, loaded, rising}
use Rattle.exact.proofs.Envelope.{same_k}
use Rattle.exact.proofs.Tied.{by, Tied, same_code, same_i, same_o, total, tied_samples, tied_fresh}

-- ---- the invariant

pub record Good (m : Meter) (e : E) : Type 0 where
  pub named : is_named e.code ≡ true
  pub k_is : e.K ≡ (row_of e.code).k
  pub i_is : e.I ≡ (row_of e.code).i
  pub code : m.setting.code ≡ e.code
  pub offset : m.setting.offset ≡ e.o
  pub offset_fits : SFits w16 e.o
  pub margin : wrong_margin m.setting.margin.0 ≡ false
  pub list : unloadable m.setting.thresholds ≡ false
  pub few : m.state.sums.n.0 ≤ most_samples
  pub tied : Tied m.setting.thresholds (row_of e.code).d m.state e

module _ (m : Meter) (e : E) (g : Good m e) where
  i_of_lem : i_of m.setting ≡ e.I
  unfolding i_of
  i_of_lem = ap (λ (c : ℕ). (row_of c).i) g.code ∙ sym g.i_is

  by_of : counting_of m.setting ≡ by e
  unfolding counting_of k_of i_of
  by_of =
      ap₂ (λ (k i : ℕ). record { k = k; i = i; offset = m.setting.offset }) (ap (λ (c : ℕ). (row_of c).k) g.code ∙ sym g.k_is) i_of_lem
      ∙ ap (λ (o : ℤ). record { k = e.K; i = e.I; offset = o }) g.offset

  pub good_possible : Possible m
  good_possible =
      let t = g.tied in
      record {
        named = ap is_named g.code ∙ g.named;
        margin = g.margin;
        list = g.list;
        n_max = g.few;
        s_max = t.sum;
        sq_max = t.squares;
        p_max = t.p_max;
        q_max = t.q_max;
        h_max = λ j l. subst (λ (i : ℕ). get_or m.state.h j 0 ≤ i) (sym i_of_lem) (t.each j l).held;
        a_max = λ j l. (t.each j l).few;
        a_falls = λ j l. (t.falls j (omega arith)).count;
        h_rises = λ j l. (t.falls j (omega arith)).hang;
        a_past = t.a_past;
        h_past = t.h_past;
      }

  -- the meter accepts what E accepts: no rule of the call applies
  chunk_agree : (xs : List ℤ) → NoneApplies (chunk_rules m xs) ↔ (accepts e (chunk xs) ≡ true)
  unfolding NoneApplies chunk_rules accepts long_chunk too_many
  chunk_agree xs = (
    λ n. simp (le-leb _ _ (ltb-false 4096 (length xs) n.1.0), le-leb (e.y + length xs) most_samples (omega (arith, ltb-false most_samples (m.state.sums.n.0 + length xs) n.1.1.0, g.tied.taken))),
    λ h. let p = both (leb (length xs) 4096) _ h in (
      passes m good_possible,
      (le-ltb 4096 (length xs) (leb-true _ _ p.0), (le-ltb most_samples (m.state.sums.n.0 + length xs) (omega (arith, leb-true (e.y + length xs) most_samples p.1, g.tied.taken)), tt)),
    ),
  )

  block_agree : (b : List ℕ) → NoneApplies (block_call_rules m b) ↔ (accepts e (block b) ≡ true)
  unfolding NoneApplies block_call_rules block_rules accepts wrong_rate wrong_place too_many
  block_agree b = (
    λ n. let n4 = n.1 in
        let n7 = n4.1.1.1 in
        let n10 = n7.1.1.1 in
        let rate : rate_code b ≡ e.code = eqb-true _ _ (not-false _ n7.0) ∙ g.code in
        let fits = is_sound_lem b
        (record {
          length_ok = n4.0;
          check_ok = n4.1.0;
          kind_ok = n4.1.1.0;
          count_ok = n7.1.0;
          unused_ok = n7.1.1.0;
          named = ap is_named rate ∙ g.named;
        }) in
        simp (
          fits,
          eq-eqb _ _ rate,
          eq-eqb (before b) e.y (eqb-true _ _ (not-false _ n10.0) ∙ g.tied.taken),
          le-leb (e.y + count b) most_samples (omega (arith, ltb-false most_samples (m.state.sums.n.0 + count b) n10.1.0, g.tied.taken)),
        ),
    λ h. let h4 = both (sound b && eqb (rate_code b) e.code && eqb (before b) e.y) _ h in
        let h3 = both (sound b && eqb (rate_code b) e.code) _ h4.0 in
        let h2 = both (sound b) _ h3.0 in
        let s = sound_is b h2.0 in
        let rate = eq-eqb (rate_code b) m.setting.code (eqb-true _ _ h2.1 ∙ sym g.code) in
        let place = eq-eqb (before b) m.state.sums.n.0 (eqb-true _ _ h3.1 ∙ sym g.tied.taken) in (
          passes m good_possible,
          (
            s.length_ok,
            (
              s.check_ok,
              (
                s.kind_ok,
                (
                  ap not rate,
                  (
                    s.count_ok,
                    (
                      s.unused_ok,
                      (
                        ap not place,
                        (le-ltb most_samples (m.state.sums.n.0 + count b) (omega (arith, leb-true (e.y + count b) most_samples h4.1, g.tied.taken)), tt),
                      ),
                    ),
                  ),
                ),
              ),
            ),
          ),
        ),
  )

  -- a number is 0 exactly where a test holds
  same_test : (k : ℕ) (t : Bool) {P : Type 0} → (k ≡ 0) ↔ P → P ↔ (t ≡ true) → eqb k 0 ≡ t
  same_test k true f h = eq-eqb k 0 (f.1 (h.1 refl))
  same_test k false f h = ne_eqb k 0 (λ z. absurd (subst T (sym (h.0 (f.0 z))) tt))

  pub agree : (call : Call) → accepted m call ≡ accepts e call
  unfolding accepted called
  agree (chunk xs) = same_test _ _ (chunk_given m xs).0.accepted (chunk_agree xs)
  agree (block b) = same_test _ _ (block_given m b).0.accepted (block_agree b)

  -- the tie is kept by the samples of an accepted call
  good_samples : (xs : List ℤ) → AllSamples xs → e.y + length xs ≤ most_samples → Good (after_samples m xs) (take_all e xs)
  unfolding after_samples
  good_samples xs f room =
      record {
        named = ap is_named (same_code xs e) ∙ g.named;
        k_is = same_k xs e ∙ g.k_is ∙ ap (λ (c : ℕ). (row_of c).k) (sym (same_code xs e));
        i_is = same_i xs e ∙ g.i_is ∙ ap (λ (c : ℕ). (row_of c).i) (sym (same_code xs e));
        code = g.code ∙ sym (same_code xs e);
        offset = g.offset ∙ sym (same_o xs e);
        offset_fits = subst (SFits w16) (sym (same_o xs e)) g.offset_fits;
        margin = g.margin;
        list = g.list;
        few = subst (λ (n : ℕ). n ≤ most_samples) (sym (tied_on.taken ∙ total xs e)) room;
        tied = subst (λ (c : ℕ). Tied m.setting.thresholds (row_of c).d (state_after (counting_of m.setting) m.setting.thresholds m.state xs) (take_all e xs)) (sym (same_code xs e)) tied_on;
      }
    where
      tied_on : Tied m.setting.thresholds (row_of e.code).d (state_after (counting_of m.setting) m.setting.thresholds m.state xs) (take_all e xs)
      tied_on =
          let r = row_keeps e.code g.named in
          subst (λ (c : Counting). Tied m.setting.thresholds (row_of e.code).d (state_after c m.setting.thresholds m.state xs) (take_all e xs)) (sym by_of)
          (tied_samples m.setting.thresholds (rising _ (loaded _ g.list)) (row_of e.code).d xs m.state e
          (subst (λ (k : ℕ). 1 ≤ k) (sym g.k_is) r.k_low)
          (subst (λ (k : ℕ). k ≤ smoothing) (sym g.k_is) r.k_high)
          (subst (λ (k : ℕ). 2 ^ 21 ≤ (row_of e.code).d * k) (sym g.k_is) r.d_rule.not_below)
          g.offset_fits f g.tied)

-- ---- a call, and a list of calls

-- the samples that a call brings are samples, and E counts them
block_samples : (b : List ℕ) (at k : ℕ) → AllSamples (samples_at b at k)
unfolding samples_at AllSamples
block_samples b at zero = tt
block_samples b at (suc k) = (signed_fits (number_at b at 2), block_samples b (at + 2) k)

good_taken : (m : Meter) (e : E) (g : Good m e) (call : Call) → Typed (call ∷ []) → accepts e call ≡ true
    → Good (after_samples m (brought_by call)) (take_all e (brought_by call))
unfolding accepts brought_by Typed samples_in
good_taken m e g (chunk xs) f h = good_samples m e g xs f.0 (leb-true _ _ (both (leb (length xs) 4096) _ h).1)
good_taken m e g (block b) f h =
    good_samples m e g (samples_at b 12 (count b)) (block_samples b 12 (count b))
    (subst (λ (k : ℕ). e.y + k ≤ most_samples) (sym (samples_at_length b 12 (count b))) (leb-true _ _ (both (sound b && eqb (rate_code b) e.code && eqb (before b) e.y) _ h).1))

-- what a call hands back, by its answer
pub handed_meter : (m : Meter) (call : Call) → (called m call).meter ≡ cond (accepted m call) (after_samples m (brought_by call)) m
unfolding accepted called chunk_call block_call brought_by
handed_meter m (chunk xs) = refl
handed_meter m (block b) = refl

pub call_meter : (m : Meter) (e : E) → Good m e → (call : Call)
    → (called m call).meter ≡ cond (accepts e call) (after_samples m (brought_by call)) m
call_meter m e g call =
    handed_meter m call
    ∙ ap (λ (t : Bool). cond t (after_samples m (brought_by call)) m) (agree m e g call)

pub good_call : (m : Meter) (e : E) → Good m e → (call : Call) → Typed (call ∷ []) → Good (called m call).meter (fed e call)
unfolding fed
good_call m e g call f = subst (λ (n : Meter). Good n (fed e call)) (sym (call_meter m e g call)) (go (accepts e call) refl)
  where
    go : (t : Bool) → accepts e call ≡ t
        → Good (cond t (after_samples m (brought_by call)) m) (cond t (take_all e (brought_by call)) e)
    go true h = good_taken m e g call f h
    go false h = g

-- one call of a list, and the rest
pub split : (call : Call) (calls : List Call) → Typed (call ∷ calls) → Typed (call ∷ []) × Typed calls
unfolding Typed
split (chunk xs) calls f = ((f.0, tt), f.1)
split (block b) calls f = (tt, f)

pub good_after : (calls : List Call) (m : Meter) (e : E) → Typed calls → Good m e → Good (after m calls) (exactly e calls)
unfolding after exactly
good_after [] m e f g = g
good_after (call ∷ calls) m e f g =
    let s = split call calls f in
    good_after calls (called m call).meter (fed e call) s.1 (good_call m e g call s.0)

pub same_answers : (calls : List Call) (m : Meter) (e : E) → Typed calls → Good m e → answers m calls ≡ answers_of_e e calls
unfolding answers answers_of_e
same_answers [] m e f g = refl
same_answers (call ∷ calls) m e f g =
    let s = split call calls f in
    ap₂ ◌∷◌ (agree m e g call) (same_answers calls (called m call).meter (fed e call) s.1 (good_call m e g call s.0))

pub same_samples : (calls : List Call) (m : Meter) (e : E) → Typed calls → Good m e → taken m calls ≡ took e calls
unfolding taken took
same_samples [] m e f g = refl
same_samples (call ∷ calls) m e f g =
    let s = split call calls f in
    ap₂ ◌++◌
    (ap (λ (t : Bool). cond t (brought_by call) []) (agree m e g call))
    (same_samples calls (called m call).meter (fed e call) s.1 (good_call m e g call s.0))

-- ---- from the opening on

-- none of 1, 17, 19, 20 and 21 applies to a setting that opening accepts
pub record Accepted (c : Setting) : Type 0 where
  pub named : is_named c.code ≡ true
  pub margin : wrong_margin c.margin.0 ≡ false
  pub list : unloadable c.thresholds ≡ false

pub accepted_setting : (c : Setting) → (open_call c).number ≡ 0 → Accepted c
unfolding NoneApplies open_rules list_rules unnamed_code unloadable
accepted_setting c z =
    let n = (open_given c).0.accepted.0 z in
    record { named = not-false _ n.0; margin = n.1.0; list = simp (n.1.1.0, n.1.1.1.0, n.1.1.1.1.0) }

-- the usual setting of a code that names a rate is one of those
pub usual_opens : (code : ℕ) → is_named code ≡ true → (open_call (usual_setting code)).number ≡ 0
unfolding NoneApplies open_rules list_rules unnamed_code wrong_margin unloadable
usual_opens code n =
    let l = or_parts (wrong_length built_in_list) (wrong_entry built_in_list || wrong_end built_in_list) built_in_loads in
    let k = or_parts (wrong_entry built_in_list) (wrong_end built_in_list) l.1 in
    (open_given (usual_setting code)).0.accepted.1 (ap not n, (refl, (l.0, (k.0, (k.1, tt)))))

none_yet : (k I : ℕ) → (fresh_state k I).sums.n.0 ≤ most_samples
unfolding fresh_state
none_yet k I = zero-le

good_fresh : (c : Setting) → TypedOffset c → Accepted c → Good (fresh c) (exact_at c)
unfolding start start_at fresh i_of
good_fresh c t n =
    record {
      named = n.named;
      k_is = refl;
      i_is = refl;
      code = refl;
      offset = refl;
      offset_fits = t;
      margin = n.margin;
      list = n.list;
      few = fresh_few c;
      tied = tied_fresh c.thresholds (rising _ (loaded _ n.list)) (row_of c.code).d c.code (row_of c.code).k (row_of c.code).i c.offset;
    }
  where
    fresh_few : (c : Setting) → (fresh_state c.thresholds.count (row_of c.code).i).sums.n.0 ≤ most_samples
    fresh_few c = none_yet c.thresholds.count (row_of c.code).i

pub good_open : (c : Setting) → TypedOffset c → (open_call c).number ≡ 0 → Good (open_call c).meter (exact_at c)
good_open c t z = subst (λ (m : Meter). Good m (exact_at c)) (sym (opened c z)) (good_fresh c t (accepted_setting c z))
