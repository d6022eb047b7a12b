-- `fill::fill_shortest` meets its contract.
-- Assumes nothing.
use native.Mathlib.Omega.{arith}
use mathlib.Core.Path.{◌≡◌}
use lib.ListN.{length}
use Rattle.fill.proofs.Filling.{gap_fits, gap_filled}
use Rattle.fill.proofs.fill_shortest.Goals as goal

pub overflow_add-start : goal.overflow_add-start
overflow_add-start c =
    omega (arith, gap_fits _ _ _ c.requires c.shortest_gap-shortest.ensures)

pub returns : goal.returns
returns c =
    let four : length c.args.row.now ≡ 4 = omega arith in
    gap_filled _ _ _ c.requires c.shortest_gap-shortest.ensures _ c.set_range.ensures four
