-- `sheet::drop::greatest_drop` meets its contract.
-- Assumes nothing.
use Rattle.std.proofs.Common.{◌∙◌, arith}
use Rattle.laws.proofs.Rewritten.{rewritten_first}
use Rattle.sheet.proofs.Drops.{tick_taken, tick_passed, ticks_all}
use Rattle.sheet.proofs.drop.greatest_drop.Goals as goal
use Rattle.sheet.proofs.drop.greatest_drop.Goals.{then-most-bounds, else-most-bounds}

pub loop-t-preserved : goal.loop-t-preserved
loop-t-preserved c =
    let table = c.args.table.now in
    let sheet = c.args.sheet.now in
    let bounded = c.bound_ticks.ensures in
    let loop = c.loop-t in
    elim c.if-most-bounds.branch [
      | then-most-bounds w ↦ tick_taken table sheet _ loop.t loop.invariant w.tick_drop.ensures (w.most-is ∙ w.max-most.ensures)
      | else-most-bounds w ↦ tick_passed table sheet _ loop.t loop.invariant (rewritten_first _ _ _ _ bounded loop.t (omega arith)) w.if-most-bounds.false w.most-is
    ]

pub returns : goal.returns
returns c =
    let loop = c.loop-t in
    ticks_all c.args.table.now c.args.sheet.now _ loop.t loop.invariant c.requires (omega arith) c.first_greatest-first.ensures.inside c.tick_drop-most.ensures
