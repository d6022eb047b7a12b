-- `numbers::greatest::first_greatest` meets its contract.
-- Assumes nothing.
use Rattle.std.proofs.Common.{arith}
use Rattle.laws.proofs.Greatest.{greatest_one, greatest_replaced, greatest_kept}
use Rattle.numbers.proofs.greatest.first_greatest.Goals as goal
use Rattle.numbers.proofs.greatest.first_greatest.Goals.{then-most-here, else-most-here}

pub loop-i-init : goal.loop-i-init
loop-i-init g c = (omega arith, λ f computes. greatest_one f _ (computes 0 _ (omega arith) c.value-most.ensures))

pub loop-i-preserved : goal.loop-i-preserved
loop-i-preserved g c =
    let loop = c.loop-i in (
      elim c.if-most-here.branch [
        | then-most-here w ↦ omega (arith, w.best-is)
        | else-most-here w ↦ omega (arith, w.best-is, loop.invariant.0)
      ],
      λ f computes.
          let so_far = loop.invariant.1 f computes in
          let here = computes loop.i _ c.loop-i-test.true c.value-here.ensures in
          elim c.if-most-here.branch [
            | then-most-here w ↦ greatest_replaced _ _ _ _ _ _ _ so_far here w.if-most-here.true w.best-is w.most-is
            | else-most-here w ↦ greatest_kept _ _ _ _ _ _ _ so_far here w.if-most-here.false w.best-is w.most-is
          ],
    )
