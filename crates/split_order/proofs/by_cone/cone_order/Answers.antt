-- `split_order::by_cone::cone_order` meets its contract.
-- Assumes nothing.
use Rattle.block.proofs.Verdicts.{handed_on}
use Rattle.operation.proofs.Operations.{file_accepted}
use Rattle.split_order.proofs.ByCone.{cones_refused, cones_listed}
use Rattle.split_order.proofs.by_cone.cone_order.Goals as goal

pub returns-in_err-nets : goal.returns-in_err-nets
returns-in_err-nets c = handed_on c.from_residual.ensures.1 (cones_refused _ c.read.ensures c.in_err-nets.was)

pub list_by_cone-requires : goal.list_by_cone-requires
list_by_cone-requires c = file_accepted c.read.ensures c.in_ok-nets.was

pub returns : goal.returns
returns c = cones_listed _ c.read.ensures c.in_ok-nets.was c.list_by_cone.ensures
