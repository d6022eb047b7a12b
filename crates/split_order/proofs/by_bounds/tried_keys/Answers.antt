-- `split_order::by_bounds::tried_keys` meets its contract. The loop's invariant: the numbers of the nets below net are written.
-- Assumes nothing.
use mathlib.Core.Path.{◌∙◌}
use lib.ListN.{length-set}
use native.Mathlib.Omega.{arith}
use Rattle.split_order.specs.Trying.{TriedKey}
use Rattle.split_order.proofs.Keys.{keys_next}
use Rattle.split_order.proofs.by_bounds.tried_keys.Goals as goal

pub loop-net-preserved : goal.loop-net-preserved
loop-net-preserved c =
    let inv = c.loop-net.invariant in
    let tried = c.try_input in (
      length-set c.loop-net.keys c.loop-net.net tried.result ∙ inv.0,
      keys_next (TriedKey c.args.setting c.args.frame.now) _ c.loop-net.keys
          (omega (arith, c.loop-net-test.true, c.args.setting.accepted.few_inputs, inv.0)) tried.ensures inv.1,
      tried.auto.sheet ∙ inv.2,
      tried.auto.work ∙ inv.3,
    )
