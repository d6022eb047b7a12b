-- `cases::sets::write_probe` meets its contract.
-- Assumes nothing.
use Rattle.laws.specs.Rewritten.{Rewritten}
use Rattle.excitation.specs.UncertaintySet.{sets_in}
use Rattle.cases.specs.Case.{probe}
use Rattle.cases.specs.Store.{pattern_byte}
use Rattle.cases.proofs.sets.write_probe.Given as goal

abbrev pub invariant-loop-net : goal.invariant-loop-net
invariant-loop-net l = Rewritten (pattern_byte (probe (sets_in l.inputs l.codes))) 0 l.net l.initial.pattern l.pattern
