-- `split_order::by_cone::list_by_cone` meets its contract.
-- Assumes nothing.
use Rattle.laws.proofs.Rewritten.{rewritten_first}
use Rattle.split_order.proofs.ByCone.{cone_few, listed_by_cone}
use Rattle.split_order.proofs.by_cone.list_by_cone.Goals as goal

pub cone_keys-requires : goal.cone_keys-requires
cone_keys-requires c = (
  c.requires.few_inputs,
  (λ net h. rw (rewritten_first _ _ _ _ c.cones-cones.ensures net h) (cone_few _ _ _ net c.requires)),
)

pub returns : goal.returns
returns c =
    listed_by_cone c.cones-cones.result _ c.requires (rewritten_first _ _ _ _ c.cones-cones.ensures) c.cone_keys.ensures c.sorted.ensures
