-- The invariant: the bits so far and those that are left spell what twelve squarings of the start spell.
use Rattle.level.proofs.Squarings.{Spells}
use Rattle.level.proofs.twelve_bits.Given as goal

abbrev pub invariant-loop : goal.invariant-loop
invariant-loop l = Spells l.start l.m l.bits l.counter
