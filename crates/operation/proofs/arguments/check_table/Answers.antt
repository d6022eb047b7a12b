-- `operation::arguments::check_table` meets its contract.
-- Assumes nothing.
use Rattle.operation.proofs.arguments.check_table.Goals as goal

pub returns : goal.returns
returns c = rw c.in_range.ensures at c.check.ensures
