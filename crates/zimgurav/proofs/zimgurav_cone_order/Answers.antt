-- `zimgurav::zimgurav_cone_order` meets its contract.
-- Assumes nothing.
use Rattle.zimgurav.proofs.Orders.{cone_called}
use Rattle.zimgurav.proofs.zimgurav_cone_order.Goals as goal

pub returns : goal.returns
returns c = cone_called _ _ c.cone_order-made.ensures c.list_after.ensures c.answer_numbers.ensures
