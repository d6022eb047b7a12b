-- `current::gate::draw_gate` meets its contract.
-- Assumes nothing.
use Rattle.current.proofs.Gates.{gate_edges, nothing_drawn, gate_drawn}
use Rattle.current.proofs.gate.draw_gate.Goals as goal

pub returns-then-not-has_tick-2 : goal.returns-then-not-has_tick-2
returns-then-not-has_tick-2 c =
    let one = rw c.edge_of.ensures at c.read_row-greater.ensures in
    let other = rw c.edge_of-2.ensures at c.read_row-lower.ensures in
    nothing_drawn c.requires one other (c.has_tick.ensures c.if-not-has_tick.true)
    (c.has_tick-then-not-has_tick.ensures c.if-not-has_tick-2.true)

pub pass_ticks-requires : goal.pass_ticks-requires
pass_ticks-requires c =
    let one = rw c.edge_of.ensures at c.read_row-greater.ensures in
    let other = rw c.edge_of-2.ensures at c.read_row-lower.ensures in
    (c.requires.long, gate_edges c.requires one other)

pub returns : goal.returns
returns c =
    let one = rw c.edge_of.ensures at c.read_row-greater.ensures in
    let other = rw c.edge_of-2.ensures at c.read_row-lower.ensures in
    gate_drawn c.requires one other c.pass_ticks.ensures
