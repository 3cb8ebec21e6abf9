-- Nothing is lost and nothing wraps: `nothing_lost`. After a list of calls the meter and E are what their samples in one list lead to, and the sums
-- grow by each sample.
use mathlib.Core.Bool.{Bool, true, false, cond}
use mathlib.Core.List.{List, [], ◌∷◌, ◌++◌}
use mathlib.Core.Path.{◌≡◌, refl, sym, ◌∙◌, ap}
use Prim.Native.Nat.{ℕ, ◌+◌, ◌*◌}
use native.Mathlib.Omega.{arith}
use native.Mathlib.Nat.{zero-add}
use lib.IntN.{ℤ, ◌+ℤ◌, +ℤ_idl, +ℤ_idr, +ℤ_assoc}
use lib.ListN.{length}
use Rattle.level.specs.Types.{two_words}
use Rattle.level.proofs.Words.{two_of_words}
use Rattle.rate.specs.Rates.{row_of}
use Rattle.setting.specs.declared.Setting.{Setting}
use Rattle.setting.specs.Settings.{k_of, i_of}
use Rattle.sample.specs.declared.Counting.{Counting}
use Rattle.sample.specs.declared.State.{State}
use Rattle.sample.specs.declared.Sums.{Sums}
use Rattle.sample.specs.Envelope.{size}
use Rattle.thresholds.specs.declared.Thresholds.{Thresholds}
use Rattle.sample.specs.Sample.{fresh_state, summed, state_after_one, state_after}
use Rattle.meter.specs.declared.Meter.{Meter}
use Rattle.meter.specs.Calls.{fresh, counting_of, after_samples}
use Rattle.meter.proofs.Laws.{opened}
use Rattle.meter.proofs.Possible.{passes}
use Rattle.exact.specs.Calls.{Call, Typed, brought_by}
use Rattle.exact.specs.Demands.{TypedOffset, Opens, meter_after, exact_at, exact_after, taken_from, sum, sum_of_squares, NothingLost}
use Rattle.exact.specs.Exact.{E, start, start_at, distance, take_one, take_all, accepts, fed, exactly, took}
use Rattle.exact.specs.Lists.{called, accepted, after, taken}
use Rattle.exact.proofs.Calls.{good_possible, good_after, good_open, handed_meter}

-- ---- the samples of a list of calls, as one list

samples_append : (c : Counting) (T : Thresholds) (xs ys : List ℤ) (m : State) → state_after c T m (xs ++ ys) ≡ state_after c T (state_after c T m xs) ys
unfolding state_after
samples_append c T [] ys m = refl
samples_append c T (x ∷ xs) ys m = samples_append c T xs ys (state_after_one c T m x)

take_append : (xs ys : List ℤ) (e : E) → take_all e (xs ++ ys) ≡ take_all (take_all e xs) ys
unfolding take_all
take_append [] ys e = refl
take_append (x ∷ xs) ys e = take_append xs ys (take_one e x)

after_is : (calls : List Call) (m : Meter) → after m calls ≡ after_samples m (taken m calls)
unfolding after taken after_samples state_after
after_is [] m = refl
after_is (call ∷ calls) m =
    let n = (called m call).meter in
    after_is calls n ∙ ap (λ (k : Meter). after_samples k (taken n calls)) (handed_meter m call) ∙ go (accepted m call) (taken n calls)
  where
    go : (t : Bool) (rest : List ℤ) → after_samples (cond t (after_samples m (brought_by call)) m) rest ≡ after_samples m (cond t (brought_by call) [] ++ rest)
    go true rest = ap (λ (s : State). record { setting = m.setting; state = s }) (sym (samples_append (counting_of m.setting) m.setting.thresholds (brought_by call) rest m.state))
    go false rest = refl

pub exactly_is : (calls : List Call) (e : E) → exactly e calls ≡ take_all e (took e calls)
unfolding exactly took fed take_all
exactly_is [] e = refl
exactly_is (call ∷ calls) e = exactly_is calls (fed e call) ∙ go (accepts e call) (took (fed e call) calls)
  where
    go : (t : Bool) (rest : List ℤ) → take_all (cond t (take_all e (brought_by call)) e) rest ≡ take_all e (cond t (brought_by call) [] ++ rest)
    go true rest = sym (take_append (brought_by call) rest e)
    go false rest = refl

-- from the opening on
pub measured : (c : Setting) (calls : List Call) → Opens c
    → meter_after c calls ≡ record { setting = c; state = state_after (counting_of c) c.thresholds (fresh_state c.thresholds.count (i_of c)) (taken_from c calls) }
unfolding after_samples fresh
measured c calls z = after_is calls _ ∙ ap (λ (m : Meter). after_samples m (taken_from c calls)) (opened c z)

-- the measurement of samples at a code and an offset, with a list
unfoldable pub measurement : Thresholds → (code : ℕ) (o : ℤ) → List ℤ → State
measurement T code o xs =
    let r = row_of code in
    state_after (record { k = r.k; i = r.i; offset = o }) T (fresh_state T.count r.i) xs

pub state_is : (c : Setting) (calls : List Call) → Opens c → (meter_after c calls).state ≡ measurement c.thresholds c.code c.offset (taken_from c calls)
unfolding measurement counting_of k_of i_of
state_is c calls z = ap (λ (m : Meter). m.state) (measured c calls z)

-- ---- the sums over one list

-- m' has what m has, and the samples xs at offset o
record Grown (o : ℤ) (xs : List ℤ) (m m' : Sums) : Type 0 where
  n : m'.n.0 ≡ m.n.0 + length xs
  s : m'.s ≡ m.s +ℤ sum xs
  squares : two_words m'.sq ≡ two_words m.sq + sum_of_squares o xs

grown : (c : Counting) (T : Thresholds) (xs : List ℤ) (m : State) → Grown c.offset xs m.sums (state_after c T m xs).sums
unfolding state_after state_after_one summed size sum sum_of_squares
grown c T [] m = record { n = omega arith; s = sym (+ℤ_idr m.sums.s); squares = omega arith }
grown c T (x ∷ xs) m =
    let g = grown c T xs (state_after_one c T m x) in
    record {
      n = omega (arith, g.n);
      s = g.s ∙ +ℤ_assoc m.sums.s x (sum xs);
      squares = omega (arith, g.squares, two_of_words (two_words m.sums.sq + size c.offset x * size c.offset x));
    }

grown_exact : (xs : List ℤ) (e : E) → (take_all e xs).sq ≡ e.sq + sum_of_squares e.o xs
unfolding take_all take_one distance sum_of_squares
grown_exact [] e = omega arith
grown_exact (x ∷ xs) e = omega (arith, grown_exact xs (take_one e x))

pub exact_squares : (c : Setting) (calls : List Call) → (exact_after c calls).sq ≡ sum_of_squares c.offset (took (exact_at c) calls)
unfolding start start_at
exact_squares c calls = ap (λ (e : E). e.sq) (exactly_is calls (exact_at c)) ∙ grown_exact (took (exact_at c) calls) (exact_at c) ∙ zero-add _

pub nothing_lost : (c : Setting) (calls : List Call) → TypedOffset c → Opens c → Typed calls → NothingLost c calls
unfolding fresh_state counting_of
nothing_lost c calls t z f =
    let e = measured c calls z in
    let g = grown (counting_of c) c.thresholds (taken_from c calls) (fresh_state c.thresholds.count (i_of c)) in
    record {
      total = ap (λ (m : Meter). m.state.sums.n.0) e ∙ g.n ∙ zero-add _;
      sums = ap (λ (m : Meter). m.state.sums.s) e ∙ g.s ∙ +ℤ_idl _;
      squares = ap (λ (m : Meter). two_words m.state.sums.sq) e ∙ g.squares ∙ ap (λ (k : ℕ). k + sum_of_squares c.offset (taken_from c calls)) (two_of_words 0) ∙ zero-add _;
      possible = passes _ (good_possible _ _ (good_after calls _ _ f (good_open c t z)));
    }
