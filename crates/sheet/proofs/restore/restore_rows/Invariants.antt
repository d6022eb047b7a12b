-- `sheet::restore::restore_rows` meets its contract.
-- Assumes nothing.
use Rattle.sheet.specs.Changes.{RowsRestored}
use Rattle.sheet.proofs.restore.restore_rows.Given as goal

abbrev pub invariant-loop-contact : goal.invariant-loop-contact
invariant-loop-contact l = RowsRestored l.contact l.stop l.initial.sheet l.sheet
