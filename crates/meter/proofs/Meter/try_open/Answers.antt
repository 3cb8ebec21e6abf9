-- A list that loads has no more thresholds than places.
use Rattle.std.proofs.Common.{sym}
use Rattle.thresholds.proofs.Laws.{accepted_loads, loaded}
use Rattle.meter.proofs.Meter.try_open.Goals as goal

pub fresh-requires : goal.fresh-requires
fresh-requires c = let t = c.args.setting.thresholds in (loaded t (sym (accepted_loads t c.in_ok-load.ensures))).most
