-- What a source shows: the bytes that are read and not yet used, how many bytes of the input were read and how many used, by a
-- number of 64 bits, and how reading goes.
use Rattle.std.specs.Prelude.{ℕ, ◌+◌, ◌-◌, ◌^◌, ◌%◌, List, Result, length, slice_range}
use Rattle.page.specs.declared.errors.SystemError.{SystemError}
use Rattle.input.specs.declared.source.Coming.{Coming}
use Rattle.input.specs.declared.source.Source.{Source}

abbrev pub unused_of : {N : ℕ} → Source N → List ℕ
unused_of source = slice_range source.buffer source.at source.end

abbrev pub read_of : {N : ℕ} → Source N → ℕ
read_of source = source.read

abbrev pub place_of : {N : ℕ} → Source N → ℕ
place_of source = (source.read + (2 ^ 64 - length (unused_of source))) % 2 ^ 64

abbrev pub reading_of : {N : ℕ} → Source N → Result Coming SystemError
reading_of source = source.reading
