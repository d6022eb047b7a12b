-- `cases::sets::write_probe_codes` meets its contract.
-- Assumes nothing.
use lib.ListN.{get_or}
use Rattle.laws.specs.Rewritten.{Rewritten}
use Rattle.excitation.specs.UncertaintySet.{code, decode, single}
use Rattle.cases.specs.Case.{first_allowed}
use Rattle.cases.proofs.sets.write_probe_codes.Given as goal

abbrev pub invariant-loop-net : goal.invariant-loop-net
invariant-loop-net l = Rewritten (λ net. code (single (first_allowed (decode (get_or l.codes net 0))))) 0 l.net l.initial.singles l.singles
