-- What types say of lists: samples are signed 16-bit numbers (METHOD.md, "One sample"), and bytes are below 256.
use Rattle.std.specs.Prelude.{List, [], ◌∷◌, ℕ, ◌<◌, ℤ}
use Rattle.std.specs.Int.{w16}
use Rattle.std.proofs.Common.{SFits}

unfoldable pub AllSamples : List ℤ → Type 0
AllSamples [] = Unit {0}
AllSamples (x ∷ xs) = SFits w16 x × AllSamples xs

unfoldable pub AllBytes : List ℕ → Type 0
AllBytes [] = Unit {0}
AllBytes (x ∷ xs) = (x < 256) × AllBytes xs
