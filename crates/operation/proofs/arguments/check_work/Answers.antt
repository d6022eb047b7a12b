-- `operation::arguments::check_work` meets its contract.
-- Assumes nothing.
use Rattle.operation.proofs.Sizes.{work_fits}
use Rattle.operation.proofs.arguments.check_work.Goals as goal

pub returns : goal.returns
returns c = rw work_fits at c.check.ensures
