-- `bounds::draw::raise` meets its contract.
-- Assumes nothing.
use Rattle.laws.specs.Rewritten.{Rewritten}
use Rattle.bounds.proofs.Sheets.{raised}
use Rattle.bounds.proofs.draw.raise.Given as goal

abbrev pub invariant-loop-i : goal.invariant-loop-i
invariant-loop-i l = Rewritten (raised l.initial.sheet l.other) 0 l.i l.initial.sheet l.sheet
