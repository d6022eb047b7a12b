-- `split_order::by_bounds::untried_keys` meets its contract. The loop's invariant: the numbers of the nets below net are made.
-- Assumes nothing.
use mathlib.Core.Path.{◌∙◌}
use native.Mathlib.Omega.{arith}
use lib.ListN.{length-set}
use Rattle.split_order.specs.Trying.{UntriedKey}
use Rattle.split_order.proofs.Keys.{keys_next}
use Rattle.split_order.proofs.by_bounds.untried_keys.Goals as goal

pub loop-net-preserved : goal.loop-net-preserved
loop-net-preserved c =
    let inv = c.loop-net.invariant in
    let made = c.untried.ensures in (
      length-set c.loop-net.keys c.loop-net.net c.untried.result ∙ inv.0,
      keys_next (UntriedKey c.args.codes.now) _ c.loop-net.keys (omega (arith, c.requires, c.loop-net-test.true, inv.0))
          (record { undecided_is = made.0; decided_is = made.1 }) inv.1,
    )
