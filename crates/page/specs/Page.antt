-- What a page shows: the bytes that wait to be written, and how writing goes.
use Rattle.std.specs.Prelude.{◌≡◌, ℕ, ◌+◌, ◌≤◌, ◌<◌, List, ◌++◌, length, take, Result, IsErr}
use Rattle.page.specs.declared.errors.SystemError.{SystemError}
use Rattle.page.specs.declared.page.Page.{Page}
use Rattle.page.specs.Waiting.{held_by}

abbrev pub waiting_of : {N : ℕ} → Page N → List ℕ
waiting_of page = held_by page.waiting

abbrev pub writing_of : {N : ℕ} → Page N → Result Unit SystemError
writing_of page = page.writing

-- a failure stays: where writing had failed before, it has failed in the same way afterwards
abbrev pub StaysFailed : (before after : Result Unit SystemError) → Type 0
StaysFailed before after = IsErr before → after ≡ before

-- bytes put on a page of N: they wait behind what waited where there is room, and nothing is written; else they wait alone, as far as they fit
pub record IsPut (N : ℕ) (bytes : List ℕ) (waiting waiting' : List ℕ) (writing writing' : Result Unit SystemError) : Type 0 where
  pub behind : length waiting + length bytes ≤ N → waiting' ≡ waiting ++ bytes
  pub unwritten : length waiting + length bytes ≤ N → writing' ≡ writing
  pub full : N < length waiting + length bytes → waiting' ≡ take N bytes
  pub failed : StaysFailed writing writing'
