-- What the meter makes of a list of calls: METHOD.md, "One sample". Each call is given what the one before handed back.
use Rattle.std.specs.Prelude.{Bool, cond, List, [], ◌∷◌, ◌++◌, eqb, ℤ}
use Rattle.meter.specs.declared.Meter.{Meter}
use Rattle.meter.specs.Calls.{Handed, chunk_call, block_call}
use Rattle.exact.specs.Calls.{Call, chunk, block, brought_by}

-- what the meter hands back
unfoldable pub called : Meter → Call → Handed
called m (chunk xs) = chunk_call m xs
called m (block b) = block_call m b

-- whether it accepted the call
unfoldable pub accepted : Meter → Call → Bool
accepted m call = eqb (called m call).number 0

-- the meter after a list of calls
unfoldable pub after : Meter → List Call → Meter
after m [] = m
after m (call ∷ calls) = after (called m call).meter calls

-- which calls of a list the meter accepts
unfoldable pub answers : Meter → List Call → List Bool
answers m [] = []
answers m (call ∷ calls) = accepted m call ∷ answers (called m call).meter calls

-- the samples of those calls, in order
unfoldable pub taken : Meter → List Call → List ℤ
taken m [] = []
taken m (call ∷ calls) = cond (accepted m call) (brought_by call) [] ++ taken (called m call).meter calls
