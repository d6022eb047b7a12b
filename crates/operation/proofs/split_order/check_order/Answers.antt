-- `operation::split_order::check_order` meets its contract.
-- Assumes nothing.
use Rattle.operation.proofs.split_order.check_order.Goals as goal

pub returns : goal.returns
returns c = rw c.names_each.ensures at c.check.ensures
