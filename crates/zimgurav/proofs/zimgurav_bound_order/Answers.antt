-- `zimgurav::zimgurav_bound_order` meets its contract.
-- Assumes nothing.
use Rattle.zimgurav.proofs.Orders.{bound_called}
use Rattle.zimgurav.proofs.zimgurav_bound_order.Goals as goal

pub returns : goal.returns
returns c = bound_called _ _ c.bound_order-made.ensures c.list_after.ensures c.answer_numbers.ensures
