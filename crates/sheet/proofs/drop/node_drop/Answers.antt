-- `sheet::drop::node_drop` meets its contract.
-- Assumes nothing.
use Rattle.std.proofs.Common.{◌+◌, ◌*◌, ◌<◌, get_or, refl, arith}
use Rattle.block.specs.Limits.{drop_limit}
use Rattle.sheet.proofs.Drops.{node_small}
use Rattle.sheet.proofs.drop.node_drop.Goals as goal

-- The sum with the contact is below the limit.
sum_small : (c : goal.After-shared_slice_known-in-loop-contact-2-1)
    → c.loop-contact.sum
    + c.from-resistance.result * get_or c.args.sheet.now (512 * c.loop-contact.contact + c.args.t) 0
    < drop_limit
sum_small c =
    let loop = c.loop-contact in
    node_small c.args.table.now c.args.sheet.now c.args.node c.args.t loop.contact loop.invariant
    c.from-resistance.ensures refl (omega arith)
    (λ i. omega (arith, c.type_inv.table i)) c.requires.1

pub overflow_add-sum-in-loop-contact : goal.overflow_add-sum-in-loop-contact
overflow_add-sum-in-loop-contact c = omega (arith, sum_small c)
