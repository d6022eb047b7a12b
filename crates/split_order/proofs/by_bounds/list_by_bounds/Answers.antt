-- `split_order::by_bounds::list_by_bounds` meets its contract.
-- Assumes nothing.
use Rattle.block.proofs.Frames.{frame_sets}
use Rattle.cases.proofs.Frames.{frame_coded}
use Rattle.split_order.proofs.ByBounds.{listed_by_bounds}
use Rattle.split_order.proofs.by_bounds.list_by_bounds.Goals as goal

pub bound_keys-keys-requires : goal.bound_keys-keys-requires
bound_keys-keys-requires c =
    let coded = c.frame_codes.ensures in
    (c.requires, frame_coded c.args.setting.accepted coded)

pub returns : goal.returns
returns c =
    listed_by_bounds c.args.setting _ _ (frame_sets c.args.setting.accepted c.frame_codes.ensures) c.bound_keys-keys.ensures c.sorted.ensures
