-- The numbers of the system's errors.
use Rattle.std.specs.Prelude.{◌≡◌, ℤ, pos}
use Rattle.page.specs.declared.errors.SystemError.{SystemError}

-- the system's number of an error, 0 for one that is not the system's
abbrev pub number_of : SystemError → ℤ
number_of error = error.0

-- a signal came before the call did anything: Linux's EINTR
abbrev pub IsInterruption : SystemError → Type 0
IsInterruption error = number_of error ≡ pos 4
