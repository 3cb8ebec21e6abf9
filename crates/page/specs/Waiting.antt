-- What a buffer holds.
use Rattle.std.specs.Prelude.{ℕ, List, take}
use Rattle.page.specs.declared.waiting.Waiting.{Waiting}

-- the first of its bytes, as many as are in use
abbrev pub held_by : {N : ℕ} → Waiting N → List ℕ
held_by waiting = take waiting.used waiting.bytes
