-- Making a block: METHOD.md, "Making a block". Its bytes are a list, in the order of the layout.
use Rattle.std.specs.Prelude.{Bool, cond, not, ◌&&◌, List, [], ◌∷◌, ◌++◌, ℕ, ◌+◌, ◌-◌, ◌*◌, eqb, leb, ℤ, length, replicate, Result}
use Rattle.coding.specs.Numbers.{bytes_of}
use Rattle.coding.specs.Samples.{bytes_of_samples}
use Rattle.level.specs.Types.{most_samples}
use Rattle.rate.specs.Rates.{is_named}
use Rattle.refusal.specs.declared.Refusal.{Refusal}
use Rattle.refusal.specs.First.{Rule, first_of}
use Rattle.refusal.specs.Number.{number_given}
use Rattle.block.specs.Block.{check_sum, weighted_sum}
use Rattle.block.specs.Refusals.{wrong_length}

-- bytes 0 to 507, of at most 248 samples: the kind, the rate code, the count, the number of samples before, the samples, and zeros for the unused bytes
unfoldable pub contents_of : (code before : ℕ) → List ℤ → List ℕ
contents_of code before xs =
    bytes_of 1 1
    ++ bytes_of 1 code
    ++ bytes_of 2 (length xs)
    ++ bytes_of 8 before
    ++ bytes_of_samples xs
    ++ replicate (508 - (12 + 2 * length xs)) 0

-- the block: those, and the check words that they ask for
unfoldable pub block_of : (code before : ℕ) → List ℤ → List ℕ
block_of code before xs = let b = contents_of code before xs in b ++ bytes_of 2 (check_sum b) ++ bytes_of 2 (weighted_sum b)

-- 18: the number k of samples is not 1 to 248, or they would end above 2^48
unfoldable pub unwritable : (before k : ℕ) → Bool
unwritable before k = not (leb 1 k && leb k 248 && leb (before + k) most_samples)

-- 1, 4 and 18, in their order
unfoldable pub write_rules : (code before : ℕ) → List ℤ → (buffer : List ℕ) → List Rule
write_rules code before xs buffer = (1, not (is_named code)) ∷ (4, wrong_length buffer) ∷ (18, unwritable before (length xs)) ∷ []

-- the number given, 0 for accepted, and the lent buffer as it is afterwards
pub record Written : Type 0 where
  pub number : ℕ
  pub buffer : List ℕ

-- the number that a host in C is told, with the buffer
abbrev pub told_with : (number : ℕ) → (buffer : List ℕ) → Written
told_with r buffer = record { number = r; buffer = buffer }

-- what an answer says, with the buffer
abbrev pub written_by : Result Unit Refusal → (buffer : List ℕ) → Written
written_by r buffer = told_with (number_given r) buffer

-- accepted, the buffer holds the block; refused, what it held
unfoldable pub write_call : (code before : ℕ) → List ℤ → (buffer : List ℕ) → Written
write_call code before xs buffer =
    let r = first_of (write_rules code before xs buffer) in
    record { number = r; buffer = cond (eqb r 0) (block_of code before xs) buffer }
