-- The bytes left to show fall.
use Rattle.replay.proofs.Player.show.Given as goal

abbrev pub decreases-loop-left : goal.decreases-loop-left
decreases-loop-left l = l.left
