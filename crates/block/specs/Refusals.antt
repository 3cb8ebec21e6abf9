-- Why a block is refused, and which part of it carries samples: METHOD.md, "Sample blocks" and "Why a call is refused". Each condition has a
-- meaning for every list of bytes.
use Rattle.std.specs.Prelude.{Bool, true, cond, not, ◌&&◌, List, [], ◌∷◌, ℕ, zero, suc, ◌+◌, ◌-◌, ◌*◌, eqb, leb, length, get_or, take, drop}
use Rattle.refusal.specs.First.{Rule, first_of}
use Rattle.rate.specs.Rates.{is_named}
use Rattle.coding.specs.Numbers.{number_at}
use Rattle.block.specs.Block.{kind, rate_code, count, check_sum, weighted_sum}

-- 4: not 512 bytes long
unfoldable pub wrong_length : List ℕ → Bool
wrong_length b = not (eqb (length b) 512)

-- 5: a stored check word is not the one worked out
unfoldable pub wrong_check : List ℕ → Bool
wrong_check b = not (eqb (number_at b 508 2) (check_sum b) && eqb (number_at b 510 2) (weighted_sum b))

-- 6: another kind
unfoldable pub wrong_kind : List ℕ → Bool
wrong_kind b = not (eqb (kind b) 1)

-- 7: the rate code is not the given one
unfoldable pub wrong_rate : List ℕ → ℕ → Bool
wrong_rate b code = not (eqb (rate_code b) code)

-- 8: the count is not 1 to 248
unfoldable pub wrong_count : List ℕ → Bool
wrong_count b = not (leb 1 (count b) && leb (count b) 248)

-- whether the bytes of b from at on, as many as k says, are all zero
unfoldable pub zeros : List ℕ → ℕ → ℕ → Bool
zeros b at zero = true
zeros b at (suc k) = eqb (get_or b at 0) 0 && zeros b (at + 1) k

-- 9: a byte after the samples, up to 507, is not zero
unfoldable pub used_unused : List ℕ → Bool
used_unused b = let at = 12 + 2 * count b in not (zeros b at (508 - at))

-- refusals 4 to 9 of a block at a given rate code, in their order
unfoldable pub block_rules : List ℕ → ℕ → List Rule
block_rules b code =
    (4, wrong_length b)
    ∷ (5, wrong_check b)
    ∷ (6, wrong_kind b)
    ∷ (7, wrong_rate b code)
    ∷ (8, wrong_count b)
    ∷ (9, used_unused b)
    ∷ []

-- sound: of all these rules only 7 could be broken, and the block's own code names a rate
unfoldable pub sound : List ℕ → Bool
sound b =
    not (wrong_length b)
    && not (wrong_check b)
    && not (wrong_kind b)
    && not (wrong_count b)
    && not (used_unused b)
    && is_named (rate_code b)

-- the part of a sound block that carries its samples; of any other the empty part
unfoldable pub samples_part : List ℕ → List ℕ
samples_part b = cond (sound b) (take (2 * count b) (drop 12 b)) []

-- the rules of the line host's check: its own code first, then the block's rules at that code
unfoldable pub host_rules : List ℕ → ℕ → List Rule
host_rules b code = (1, not (is_named code)) ∷ block_rules b code

-- the answer to the line host: 1 where the code is not a named one, or one of 4 to 9, or 0
unfoldable pub host_check : List ℕ → ℕ → ℕ
host_check b code = first_of (host_rules b code)
