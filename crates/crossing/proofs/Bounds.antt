-- The active level at any crossing, for any margin: it lies between A_lower and A_upper. For a margin of at least one step the logarithm's three
-- facts carry it to the two whole-number inequalities of demand 3. Nothing of lev is opened, and nothing here knows which crossing is used.
use mathlib.Core.Bool.{Bool, true, false}
use mathlib.Core.List.{List}
use mathlib.Core.Path.{◌≡◌, refl, sym, ◌∙◌, ap, subst}
use Prim.Native.Nat.{ℕ, ◌+◌, ◌*◌, ◌-◌, ◌/◌, ◌^◌, ◌≤◌, ◌<◌}
use native.Mathlib.Nat.{le_refl, le_of_eq, le_trans, lt_of_lt_of_le, lt_of_le_of_lt, mul-le-mul_left, mul-lt-mul_of_pos_left, mul-lt-mul_of_pos_right, pow-le-pow_left}
use native.Mathlib.Omega.{arith}
use lib.IntN.{ℤ, pos, negsuc, nat_abs, ◌+ℤ◌, ◌-ℤ◌}
use lib.Pow.{pow-add, pow_pos, pow_mono}
use lib.Signed.{lt_z, le_z}
use Rattle.std.proofs.lemmas.Int.{ints}
use Rattle.std.proofs.lemmas.Bool.Decides.{nat_tests}
use Rattle.level.specs.Logarithm.{lev}
use Rattle.level.specs.Types.{activity}
use Rattle.level.specs.declared.Samples.{Samples}
use Rattle.thresholds.specs.declared.Thresholds.{Thresholds}
use Rattle.thresholds.specs.Lists.{threshold_of}
use Rattle.level.proofs.Laws.{facts}
use Rattle.crossing.specs.Levels.{long_term, active_at, level_of_threshold, excess}
use Rattle.crossing.specs.Exponents.{above, below}
use Rattle.crossing.specs.Crossing.{is_zero, is_crossing, lower_of, active_level}
use Rattle.crossing.proofs.Signs.{zero_by_sign}
use Rattle.crossing.proofs.Interpolation.{wider, floored, part}

-- ---- a level in whole numbers

-- a level's two parts balance: x + below(x − y) = y + above(x − y)
parts_of : (z : ℤ) (x y : ℕ) → z ≡ pos x -ℤ pos y → x + below z ≡ y + above z
unfolding above below
parts_of (pos n) x y e = omega (arith, ints)
parts_of (negsuc n) x y e = omega (arith, ints)

pub balance : (x y : ℕ) → x + below (pos x -ℤ pos y) ≡ y + above (pos x -ℤ pos y)
balance x y = parts_of _ x y refl

-- sq^4096·2^d < 2^u·e^4096, where lev(sq) + 2 + d = g + u, g ≤ lev(a) and a ≤ e
pub plus_two : (sq a e g u d : ℕ) → 1 ≤ sq → sq ≤ 2 ^ 80 → 1 ≤ a → a ≤ 2 ^ 80 → a ≤ e → g ≤ lev a → lev sq + 2 + d ≡ g + u → sq ^ 4096 * 2 ^ d < 2 ^ u * e ^ 4096
plus_two sq a e g u d s0 s1 a0 a1 l h b =
    lt_of_lt_of_le (mul-lt-mul_of_pos_right (facts.less_than sq s0 s1) (pow_pos d))
    (le_trans (le_of_eq (sym (pow-add 2 (lev sq + 2) d)))
    (le_trans (pow_mono {i = lev sq + 2 + d} {j = u + lev a} (omega arith))
    (le_trans (le_of_eq (pow-add 2 u (lev a))) (mul-le-mul_left (2 ^ u) (le_trans (facts.at_most a a0 a1) (pow-le-pow_left l 4096))))))

-- 2^u·e^4096 < 4·2^d·sq^4096, where lev(sq) + d = g + u, lev(a) ≤ g and e ≤ a
pub less_two : (sq a e g u d : ℕ) → 1 ≤ sq → sq ≤ 2 ^ 80 → 1 ≤ a → a ≤ 2 ^ 80 → e ≤ a → lev a ≤ g → lev sq + d ≡ g + u → 2 ^ u * e ^ 4096 < 4 * 2 ^ d * sq ^ 4096
less_two sq a e g u d s0 s1 a0 a1 l h b =
    lt_of_le_of_lt (mul-le-mul_left (2 ^ u) (pow-le-pow_left l 4096))
    (lt_of_lt_of_le (mul-lt-mul_of_pos_left (facts.less_than a a0 a1) (pow_pos u))
    (le_trans (le_of_eq (sym (pow-add 2 u (lev a + 2))))
    (le_trans (pow_mono {i = u + (lev a + 2)} {j = 2 + d + lev sq} (omega arith))
    (le_trans (le_of_eq (pow-add 2 (2 + d) (lev sq) ∙ ap (λ (x : ℕ). x * 2 ^ lev sq) (pow-add 2 2 d))) (mul-le-mul_left (4 * 2 ^ d) (facts.at_most sq s0 s1))))))

-- (x − y) + 2 = (x + 2) − y
two_more : (x y : ℕ) → pos x -ℤ pos y +ℤ pos 2 ≡ pos (x + 2) -ℤ pos y
two_more x y = omega (arith, ints)

-- a level A is less than two steps from that of sq over a count: less than two below that over e, and above that over e'
pub record Around (A : ℤ) (sq e e' : ℕ) : Type 0 where
  pub plus : sq ^ 4096 * 2 ^ below (A +ℤ pos 2) < 2 ^ above (A +ℤ pos 2) * e ^ 4096
  pub less : 2 ^ above A * e' ^ 4096 < 4 * 2 ^ below A * sq ^ 4096

-- S − g is, with g between the logarithms of two counts, and e and e' on their outer sides
around : (sq g a a' e e' : ℕ) → 1 ≤ sq → sq ≤ 2 ^ 80 → 1 ≤ a → a ≤ 2 ^ 80 → 1 ≤ a' → a' ≤ 2 ^ 80 → a ≤ e → e' ≤ a' → lev a' ≤ g → g ≤ lev a
    → Around (pos (lev sq) -ℤ pos g) sq e e'
around sq g a a' e e' s0 s1 a0 a1 b0 b1 low high least most =
    record {
      plus =
          subst (λ (z : ℤ). sq ^ 4096 * 2 ^ below z < 2 ^ above z * e ^ 4096) (sym (two_more (lev sq) g))
          (plus_two sq a e g _ _ s0 s1 a0 a1 low most (balance (lev sq + 2) g));
      less = less_two sq a' e' g _ _ s0 s1 b0 b1 high least (balance (lev sq) g);
    }

-- the long-term level: L is less than two steps from the exact level over n, either way
pub long_term_lem : (sq n : ℕ) → 1 ≤ sq → sq ≤ 2 ^ 80 → 1 ≤ n → n ≤ 2 ^ 80 → Around (long_term (pos (lev sq)) n) sq n n
unfolding long_term
long_term_lem sq n s0 s1 n0 n1 = around sq (lev n) n n n n s0 s1 n0 n1 n0 n1 (le_refl n) (le_refl n) (le_refl (lev n)) (le_refl (lev n))

-- ---- what a crossing is

-- the level at a crossing j, whose lower threshold is i: S − g, with g from lev(a_j) to lev(a_i), and d_i not below 0
pub record Crossed (M S : ℤ) (T : Thresholds) (a : List Samples) (j : ℕ) : Type 0 where
  pub i : ℕ
  pub lower : lower_of M S T a j ≡ i
  pub reach : i ≤ j
  pub alive : 0 < activity a j
  pub counts : activity a j ≤ activity a i
  pub g : ℕ
  pub level : active_level M S T a j ≡ S -ℤ pos g
  pub least : lev (activity a j) ≤ g
  pub most : g ≤ lev (activity a i)
  pub over : lt_z (excess M S T a i) (pos 0) ≡ false

module _ (M S : ℤ) (T : Thresholds) (a : List Samples) (j : ℕ) where
  -- a_j is above 0
  pub alive : is_crossing M S T a j ≡ true → 0 < activity a j
  unfolding is_crossing
  alive cross = grind (arith, nat_tests)

module _ (M S : ℤ) (T : Thresholds) (a : List Samples) (j : ℕ) (cross : is_crossing M S T a j ≡ true) where
  -- d_j = 0: the level is A_j
  crossed_at : is_zero (excess M S T a j) ≡ true → Crossed M S T a j
  unfolding lower_of active_level active_at
  crossed_at z =
      record {
        i = j;
        lower = simp z;
        reach = le_refl j;
        alive = alive M S T a j cross;
        counts = le_refl _;
        g = lev (activity a j);
        level = simp z;
        least = le_refl _;
        most = le_refl _;
        over = grind (arith, ints, zero_by_sign, z);
      }

  -- where d_j is not 0 the sign changes from j − 1 to j
  changed : is_zero (excess M S T a j) ≡ false → (1 ≤ j) × (lt_z (pos 0) (excess M S T a (j - 1)) ≡ true) × (lt_z (excess M S T a j) (pos 0) ≡ true)
  unfolding is_crossing
  changed z = grind (arith, nat_tests)

  -- and the level lies between A_(j−1) and A_j
  crossed_over : activity a j ≤ activity a (j - 1) → activity a (j - 1) ≤ 2 ^ 80 → is_zero (excess M S T a j) ≡ false → Crossed M S T a j
  unfolding lower_of active_level active_at
  crossed_over falls few z =
      let c = changed z in
      let la = lev (activity a (j - 1)) in
      let lb = lev (activity a j) in
      let d = excess M S T a (j - 1) in
      let e = excess M S T a j in
      let l : lb ≤ la = facts.never_falls _ _ (alive M S T a j cross) falls few in
      let r : (S -ℤ pos lb) -ℤ (S -ℤ pos la) ≡ pos (la - lb) = omega (arith, ints) in
      let f = (la - lb) * nat_abs d / nat_abs (d -ℤ e) in
      let p : f ≤ la - lb = part (la - lb) _ _ (wider d e c.1 c.2) in
      record {
        i = j - 1;
        lower = simp z;
        reach = omega arith;
        alive = alive M S T a j cross;
        counts = falls;
        g = la - f;
        level = simp (z, r, floored (pos (la - lb)) d e (omega (arith, ints)) c.1) (omega (arith, ints));
        least = omega arith;
        most = omega arith;
        over = grind (arith, ints, c.1);
      }

  pub crossed : (1 ≤ j → activity a j ≤ activity a (j - 1)) → activity a (j - 1) ≤ 2 ^ 80 → Crossed M S T a j
  crossed falls few = go (is_zero (excess M S T a j)) refl
    where
      go : (t : Bool) → is_zero (excess M S T a j) ≡ t → Crossed M S T a j
      go true z = crossed_at z
      go false z = crossed_over (falls (changed z).0) few z

-- the factor F = L − A is never above 0, where a_lower is at most n
pub factor : (M S : ℤ) (n : ℕ) (T : Thresholds) (a : List Samples) (j : ℕ) → (c : Crossed M S T a j) → activity a c.i ≤ n → n ≤ 2 ^ 80
    → lt_z (pos 0) (long_term S n -ℤ active_level M S T a j) ≡ false
unfolding long_term
factor M S n T a j c few big =
    let l = facts.never_falls _ n (le_trans c.alive c.counts) few big in
    let e = c.level in
    grind (arith, ints, c.most)

-- ---- the bounds of demand 3, at any crossing

-- A is at least C_lower + M: d_lower is not below 0, and A is at least A_lower
pub over_margin : (M : ℤ) (s : ℕ) (T : Thresholds) (a : List Samples) (j : ℕ) → (c : Crossed M (pos s) T a j)
    → le_z (level_of_threshold (threshold_of T c.i) +ℤ M) (active_level M (pos s) T a j) ≡ true
unfolding excess active_at
over_margin M s T a j c = let e = c.level in let h = c.over in grind (arith, ints, c.most)

pub bounded : (M : ℤ) (sq : ℕ) (T : Thresholds) (a : List Samples) (j e e' : ℕ) → 1 ≤ sq → sq ≤ 2 ^ 80
    → (c : Crossed M (pos (lev sq)) T a j) → activity a c.i ≤ 2 ^ 80 → activity a c.i ≤ e → e' ≤ activity a j → Around (active_level M (pos (lev sq)) T a j) sq e e'
bounded M sq T a j e e' s0 s1 c few low high =
    subst (λ (A : ℤ). Around A sq e e') (sym c.level)
    (around sq c.g (activity a c.i) (activity a j) e e' s0 s1 (le_trans c.alive c.counts) few c.alive (le_trans c.counts few) low high c.least c.most)
