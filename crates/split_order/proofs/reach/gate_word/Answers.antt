-- `split_order::reach::gate_word` meets its contract. The loop's invariant: the union of the words of the pins passed.
-- Assumes nothing.
use mathlib.Core.Path.{◌≡◌, refl}
use native.Mathlib.Omega.{arith}
use Rattle.split_order.specs.Reach.{union_below, gate_word}
use Rattle.split_order.proofs.Cones.{union_next}
use Rattle.split_order.proofs.reach.gate_word.Goals as goal

pub loop-p-init : goal.loop-p-init
unfolding union_below
loop-p-init c = refl

pub loop-p-preserved : goal.loop-p-preserved
loop-p-preserved c =
    let l = c.loop-p in
    union_next l.p l.word _ l.invariant

pub returns : goal.returns
unfolding gate_word
returns c =
    let l = c.loop-p in
    let e : l.p ≡ c.args.gate.used = omega arith in
    rw e at l.invariant
