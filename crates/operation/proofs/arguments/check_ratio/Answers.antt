-- `operation::arguments::check_ratio` meets its contract.
-- Assumes nothing.
use Rattle.operation.proofs.arguments.check_ratio.Goals as goal

pub returns : goal.returns
returns c = rw c.in_range.ensures at c.check.ensures
