-- `sheet::restore::restore_row` meets its contract.
-- Assumes nothing.
use Rattle.std.proofs.Common.{◌+◌, get_or, refl, inr, arith}
use Rattle.laws.proofs.Rewritten.{rewritten_next}
use Rattle.sheet.proofs.Changes.{tick_restored}
use Rattle.sheet.proofs.restore.restore_row.Goals as goal

pub loop-t-preserved : goal.loop-t-preserved
loop-t-preserved c =
    let loop = c.loop-t in
    let next = tick_restored (λ k. get_or c.args.sheet.now (c.args.start + k) 0) loop.t loop.invariant.0
    (loop.invariant.1.rest (c.args.start + loop.t) (inr (omega arith))) refl in (
      next.0,
      rewritten_next _ c.args.start loop.t _ _ _ _ refl (omega (arith, c.requires.0)) next.1 loop.invariant.1,
    )
