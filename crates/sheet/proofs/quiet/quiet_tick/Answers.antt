-- `sheet::quiet::quiet_tick` meets its contract.
-- Assumes nothing.
use Rattle.sheet.proofs.QuietTick.{quiet_from}
use Rattle.sheet.proofs.quiet.quiet_tick.Goals as goal

pub loop-t-init : goal.loop-t-init
loop-t-init c = quiet_from c.requires
