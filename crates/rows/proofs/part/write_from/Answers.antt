-- `rows::part::write_from` meets its contract.
-- Assumes nothing.
use Rattle.rows.proofs.Rows.{four_written}
use Rattle.rows.proofs.part.write_from.Goals as goal

pub returns : goal.returns
returns c =
    four_written _ _ c.write_word.ensures
    c.write_word-2.ensures
    c.write_word-3.ensures
    c.write_word-4.ensures
