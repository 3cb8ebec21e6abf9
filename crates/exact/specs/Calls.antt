-- Calls: METHOD.md, "One sample". What a call is given beside the meter, and the samples that it brings.
use Rattle.std.specs.Prelude.{List, [], ◌∷◌, ℕ, ℤ}
use Rattle.block.specs.Block.{samples_in}
use Rattle.coding.specs.Typed.{AllSamples}

-- a call's arguments other than the meter
pub data Call : Type 0 where
  chunk : List ℤ → Call
  block : List ℕ → Call

-- the samples of each chunk are signed 16-bit numbers, as their type says
unfoldable pub Typed : List Call → Type 0
Typed [] = Unit {0}
Typed (chunk xs ∷ calls) = AllSamples xs × Typed calls
Typed (block b ∷ calls) = Typed calls

-- the samples that a call brings
unfoldable pub brought_by : Call → List ℤ
brought_by (chunk xs) = xs
brought_by (block b) = samples_in b
