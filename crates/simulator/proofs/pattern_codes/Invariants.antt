-- `simulator::pattern_codes` meets its contract.
-- Assumes nothing.
use lib.ListN.{get_or, replicate}
use Rattle.laws.specs.Rewritten.{Rewritten}
use Rattle.excitation.specs.UncertaintySet.{code, single}
use Rattle.excitation.specs.Excitation.{excitation_of}
use Rattle.simulator.proofs.pattern_codes.Given as goal

abbrev pub invariant-loop-net : goal.invariant-loop-net
invariant-loop-net l = Rewritten (λ net. code (single (excitation_of (get_or l.pattern net 0)))) 0 l.net (replicate 64 0) l.codes
