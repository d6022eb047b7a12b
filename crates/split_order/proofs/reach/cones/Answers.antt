-- `split_order::reach::cones` meets its contract. The loop's invariant: the cones of the inputs below the next are counted.
-- Assumes nothing.
use mathlib.Core.Path.{◌∙◌}
use native.Mathlib.Omega.{arith}
use Rattle.laws.proofs.Rewritten.{rewritten_next, rewritten_to}
use Rattle.split_order.proofs.Cones.{reached_all}
use Rattle.split_order.proofs.reach.cones.Goals as goal

pub loop-net-preserved : goal.loop-net-preserved
loop-net-preserved c =
    let l = c.loop-net in
    let taken = c.loop-net-test.true in
    let few = c.requires.few_inputs in
    let size = c.reached_gates.ensures ∙ reached_all _ _ _ c.requires _ _ c.write_words.ensures taken in
    rewritten_next _ _ l.net _ _ _ _ (omega arith) (omega arith) size l.invariant

pub returns : goal.returns
returns c = rewritten_to _ _ _ c.args.inputs _ _ (omega arith) c.loop-net.invariant
