-- `cases::sets::write_probe` meets its contract.
-- Assumes nothing.
use mathlib.Core.Path.{ap, ◌∙◌}
use native.Mathlib.Omega.{arith}
use Rattle.laws.proofs.Rewritten.{rewritten_next}
use Rattle.excitation.specs.Excitation.{byte_of}
use Rattle.cases.proofs.Codes.{probe_byte}
use Rattle.cases.proofs.sets.write_probe.Goals as goal

pub loop-net-preserved : goal.loop-net-preserved
loop-net-preserved c =
    let loop = c.loop-net in
    rewritten_next _ _ loop.net _ _ _ _ (omega arith) (omega arith) (probe_byte _ _ _ c.loop-net-test.true (c.byte_of.ensures ∙ ap byte_of c.first_allowed.ensures)) loop.invariant
