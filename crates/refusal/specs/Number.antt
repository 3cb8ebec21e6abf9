-- The numbers of METHOD.md, "Why a call is refused".
use Rattle.std.specs.Prelude.{ℕ, Result, Ok, Err}
use Rattle.refusal.specs.declared.Refusal.{Refusal}
use Rattle.refusal.specs.declared.Refusal.TheVariants.{UnnamedRate, ImpossibleMeter, LongChunk, BlockLength, BlockCheck, BlockKind, BlockRate, BlockCount, BlockUnused, BlockPlace, TooManySamples, NoSamples, NoSignal, NoActivity, NoCrossingBelow, NoCrossingAbove, WrongMargin, UnwritableSamples, ListLength, ListEntry, ListEnd}

-- the number of each refusal
abbrev pub number_of : Refusal → ℕ
number_of UnnamedRate = 1
number_of ImpossibleMeter = 2
number_of LongChunk = 3
number_of BlockLength = 4
number_of BlockCheck = 5
number_of BlockKind = 6
number_of BlockRate = 7
number_of BlockCount = 8
number_of BlockUnused = 9
number_of BlockPlace = 10
number_of TooManySamples = 11
number_of NoSamples = 12
number_of NoSignal = 13
number_of NoActivity = 14
number_of NoCrossingBelow = 15
number_of NoCrossingAbove = 16
number_of WrongMargin = 17
number_of UnwritableSamples = 18
number_of ListLength = 19
number_of ListEntry = 20
number_of ListEnd = 21

-- the number of each answer to a call
abbrev pub number_given : Result Unit Refusal → ℕ
number_given (Ok u) = 0
number_given (Err why) = number_of why
