-- `runs::next_at` meets its contract.
-- Assumes nothing.
use Prim.Native.Nat.{◌/◌}
use mathlib.Core.Path.{ap, sym, ◌∙◌}
use native.Mathlib.Omega.{arith}
use borrow.Author.Rules.{rules}
use lib.ListN.{get_or}
use Prim.Native.Nat.{◌<◌, ◌^◌}
use lib.Count.{trailing_le}
use Rattle.runs.proofs.Next.{flip_for, passed_none, passed_all, looked_at, next_found, next_word}
use Rattle.runs.proofs.next_at.Goals as goal
use Rattle.runs.proofs.next_at.Goals.{then-level, else-level}

pub loop-at-init : goal.loop-at-init
loop-at-init c = (
  elim c.if-level.branch [ then-level w ↦ w.flip-is ∙ ap flip_for (sym w.if-level.true) | else-level w ↦ w.flip-is ∙ ap flip_for (sym w.if-level.false) ],
  passed_none _ _ _ c.requires,
)

pub overflow_cast-result : goal.overflow_cast-result
overflow_cast-result c = omega (arith, trailing_le 64 (looked_at c.args.row.now c.if-level.flip c.loop-at.at))

pub overflow_add-result : goal.overflow_add-result
overflow_add-result c = omega (arith, trailing_le 64 (looked_at c.args.row.now c.if-level.flip c.loop-at.at))

pub returns-then-word-ne0 : goal.returns-then-word-ne0
returns-then-word-ne0 c =
    let fits : get_or c.args.row.now (c.loop-at.at / 64) 0 < 2 ^ 64 = search rules in
    next_found _ _ _ c.loop-at.at c.loop-at.invariant.0 fits _ c.loop-at.invariant.1 c.loop-at-test.true c.if-word-ne0.true

pub loop-at-preserved : goal.loop-at-preserved
loop-at-preserved c =
    let fits : get_or c.args.row.now (c.loop-at.at / 64) 0 < 2 ^ 64 = search rules in
    let early = c.loop-at-test.true in
    (c.loop-at.invariant.0, next_word _ _ _ c.loop-at.at c.loop-at.invariant.0 fits _ c.loop-at.invariant.1 early c.if-word-ne0.false)

pub returns : goal.returns
returns c = passed_all c.loop-at.invariant.1 (omega arith)
