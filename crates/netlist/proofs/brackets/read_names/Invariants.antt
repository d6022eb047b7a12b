-- `netlist::brackets::read_names` meets its contract.
-- Assumes nothing.
use Prim.Native.Nat.{◌-◌}
use lib.ListN.{length}
use Rattle.netlist.specs.Kept.{names_in}
use Rattle.netlist.proofs.Bracketed.{NamesSoFar}
use Rattle.netlist.proofs.brackets.read_names.Given as goal

abbrev pub invariant-loop-rest : goal.invariant-loop-rest
invariant-loop-rest l = NamesSoFar l.line (names_in l.names) l.rest

abbrev pub decreases-loop-rest : goal.decreases-loop-rest
decreases-loop-rest l = 4 - length (names_in l.names)
