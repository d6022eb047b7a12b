-- `split_order::reach::write_words` meets its contract. The loop's invariant: the words of the nets below the next.
-- Assumes nothing.
use mathlib.Core.Path.{sym, subst}
use Rattle.block.specs.Accepted.{GateRecord}
use Rattle.split_order.proofs.Cones.{reached_first, reached_next}
use Rattle.split_order.proofs.reach.write_words.Goals as goal

pub loop-net-init : goal.loop-net-init
loop-net-init c =
    reached_first _ _ _ c.requires _ _ c.told-words c.write_own.ensures

pub loop-net-preserved : goal.loop-net-preserved
loop-net-preserved c =
    let l = c.loop-net in
    let a = c.requires in
    let taken = c.loop-net-test.true in
    let is = c.gate-gate.ensures.is in
    let g = subst (GateRecord l.net) (sym is) (a.gate l.net l.auto.net taken) in
    reached_next _ _ _ a _ _ l.invariant _ _ is g l.auto.net taken c.gate_word.ensures
