-- `fill::fill_row` meets its contract. The loop's invariant: filling the gaps that are left comes to what filling all of them does, and
-- each turn leaves one run less.
-- Assumes nothing.
use Prim.Native.Nat.{◌<◌}
use native.Mathlib.Omega.{arith}
use lib.ListN.{length}
use Rattle.runs.specs.Rows.{runs_in}
use Rattle.fill.proofs.Filling.{filling_none, filling_more, one_fewer, filling_done}
use Rattle.fill.proofs.fill_row.Goals as goal

pub loop-init : goal.loop-init
loop-init c = (filling_none _ _ (omega arith), omega arith)

pub fill_shortest-requires : goal.fill_shortest-requires
fill_shortest-requires c =
    let some = c.requires.1 in omega arith

pub loop-preserved : goal.loop-preserved
loop-preserved c =
    let one = c.fill_shortest.ensures in
    let many : c.args.hops < length (runs_in c.loop.row) = omega arith in
    let fewer = one_fewer _ _ _ c.loop.invariant.0 _ c.requires.1 many one in
    (filling_more _ _ _ c.loop.invariant.0 _ c.requires.1 many one, omega arith)

pub returns : goal.returns
returns c = filling_done _ _ _ c.loop.invariant.0 (omega arith)
