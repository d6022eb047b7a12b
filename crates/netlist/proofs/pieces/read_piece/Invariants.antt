-- `netlist::pieces::read_piece` meets its contract.
-- Assumes nothing.
use Rattle.netlist.proofs.Parts.{PieceSoFar}
use Rattle.netlist.proofs.pieces.read_piece.Given as goal

abbrev pub invariant-loop-at : goal.invariant-loop-at
invariant-loop-at l = PieceSoFar l.line l.word l.at
