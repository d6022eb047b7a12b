-- `evaluation::currents_of` meets its contract.
-- Assumes nothing.
use native.Mathlib.Omega.{arith}
use Rattle.sheet.specs.Sheet.{sheet_in}
use Rattle.sheet.proofs.Totals.{drop_below}
use Rattle.evaluation.proofs.currents_of.Goals as goal

pub returns : goal.returns
returns c =
    let low = drop_below c.args.table.now (sheet_in c.args.sheet.now) (λ i. omega (arith, c.type_inv.table i)) c.requires.most in
    (λ i. record { drop = c.greatest_drop-drop.ensures i; quiet = c.quiet_tick-quiet.ensures i }, omega (arith, c.greatest_drop-drop.ensures, low))
