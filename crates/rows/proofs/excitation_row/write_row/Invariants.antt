-- `rows::excitation_row::write_row` meets its contract.
-- Assumes nothing.
use Rattle.rows.proofs.Excitations.{WordsWritten}
use Rattle.rows.proofs.excitation_row.write_row.Given as goal

abbrev pub invariant-loop-part : goal.invariant-loop-part
invariant-loop-part l = WordsWritten l.row l.at l.part l.initial.work l.work
