-- `bench::Earlier::judge` meets its contract.
-- Assumes nothing.
use mathlib.Core.Path.{refl}
use Rattle.block.proofs.Verdicts.{handed_on}
use Rattle.bench.proofs.Judged.{judged_none, judged_misplaced, judged_input, judged_gate}
use Rattle.bench.proofs.Earlier.judge.Goals as goal

pub returns-in-Nothing : goal.returns-in-Nothing
returns-in-Nothing c = rw c.in-Nothing.is (judged_none _ _ _ _)

pub returns-in_err-check-in-Input : goal.returns-in_err-check-in-Input
returns-in_err-check-in-Input c =
    rw (c.in-Input.is, handed_on c.from_residual.ensures.1 refl) (judged_misplaced _ _ _ _ c.check.ensures c.in_err-check-in-Input.was)

pub returns-in_ok-check-in-Input : goal.returns-in_ok-check-in-Input
returns-in_ok-check-in-Input c =
    rw c.in-Input.is (judged_input _ _ _ _ c.check.ensures c.in_ok-check-in-Input.was c.knows-new.ensures c.check-in-Input.ensures)

pub returns-in-Gate : goal.returns-in-Gate
returns-in-Gate c =
    rw c.in-Gate.is (judged_gate _ _ _ _ c.knows-new-in-Gate.ensures (rw c.as_slice.ensures.value at c.knows_all-found.ensures) c.check-in-Gate.ensures)
