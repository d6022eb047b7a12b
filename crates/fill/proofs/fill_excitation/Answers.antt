-- `fill::fill_excitation` meets its contract.
-- Assumes nothing.
use native.Mathlib.Omega.{arith}
use Rattle.fill.proofs.Filling.{row_settled, one_kept, one_filled}
use Rattle.fill.proofs.fill_excitation.Goals as goal

pub count_runs-count-requires : goal.count_runs-count-requires
count_runs-count-requires c =
    row_settled _ _ _ _ c.read_row-row.ensures _ c.requires.2

pub returns-then-count-hops : goal.returns-then-count-hops
returns-then-count-hops c =
    one_kept _ _ _ _ c.read_row-row.ensures _ c.requires.2 _ (omega arith)

pub returns : goal.returns
returns c =
    let settled = c.requires.2 in
    one_filled _ _ _ _ c.read_row-row.ensures _ settled _ _ _ c.fill_row.ensures c.write_row.ensures
