-- `sheet::restore::restore_rows` meets its contract.
-- Assumes nothing.
use Rattle.std.proofs.Common.{arith}
use Rattle.sheet.proofs.Changes.{rows_next}
use Rattle.sheet.proofs.restore.restore_rows.Goals as goal

pub loop-contact-preserved : goal.loop-contact-preserved
loop-contact-preserved c =
    let loop = c.loop-contact in
    rows_next (omega arith) c.requires.1 loop.invariant c.restore_row.ensures
