-- `sheet::drop::add_contact` meets its contract.
-- Assumes nothing.
use Rattle.laws.specs.Rewritten.{Rewritten}
use Rattle.sheet.specs.Sums.{with_contact}
use Rattle.sheet.proofs.drop.add_contact.Given as goal

abbrev pub invariant-loop-t : goal.invariant-loop-t
invariant-loop-t l = Rewritten (with_contact l.initial.sums l.resistance l.sheet l.start) 0 l.t l.initial.sums l.sums
