-- `operation::arguments::check_hops` meets its contract.
-- Assumes nothing.
use Rattle.operation.proofs.arguments.check_hops.Goals as goal

pub returns : goal.returns
returns c = rw c.in_range.ensures at c.check.ensures
