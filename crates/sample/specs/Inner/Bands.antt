-- The bands between thresholds. c_0, c_1 and so on are thresholds, k of them.
use Rattle.std.specs.Prelude.{cond, ◌⊎◌, ℕ, zero, suc, ◌^◌, ◌≤◌, ◌<◌, ltb}

-- no threshold lies above low and below high
pub record Clear (c : ℕ → ℕ) (k low high : ℕ) : Type 0 where
  pub side : (j : ℕ) → j < k → (c j ≤ low) ⊎ (high ≤ c j)

-- what no envelope comes to
abbrev pub top : ℕ
top = 2 ^ 63

-- where the band above p of them begins: at the last of these, or at 0
unfoldable pub low_end : (c : ℕ → ℕ) → ℕ → ℕ
low_end c zero = 0
low_end c (suc p) = c p

-- and where it ends: at the next, or where no envelope comes
unfoldable pub high_end : (c : ℕ → ℕ) (k p : ℕ) → ℕ
high_end c k p = cond (ltb p k) (c p) top
