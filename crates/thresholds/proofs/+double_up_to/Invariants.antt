-- The measure is j.
use Rattle.thresholds.proofs.+double_up_to.Given as goal

abbrev pub decreases-double_up_to : goal.decreases-double_up_to
decreases-double_up_to l = l.j
