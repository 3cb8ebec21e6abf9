-- A word that is not 0 has a level, which the answer holds.
use Rattle.std.proofs.Common.{ap, ◌∙◌, arith}
use Rattle.level.specs.declared.Hundredths.{Hundredths}
use Rattle.level.specs.Logarithm.{level_of}
use Rattle.level.proofs.Laws.{level_known}
use Rattle.percent.proofs.level_of.Goals as goal

pub returns : goal.returns
returns c = c.or_zero.ensures ∙ level_known _ _ c.requires (omega arith) (c.level.ensures ∙ ap (λ (h : Hundredths). level_of h.0) c.from.ensures)
