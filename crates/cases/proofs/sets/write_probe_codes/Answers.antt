-- `cases::sets::write_probe_codes` meets its contract.
-- Assumes nothing.
use mathlib.Core.Path.{ap, ◌∙◌}
use native.Mathlib.Omega.{arith}
use Rattle.laws.proofs.Rewritten.{rewritten_next}
use Rattle.excitation.specs.UncertaintySet.{code, single}
use Rattle.cases.proofs.sets.write_probe_codes.Goals as goal

pub loop-net-preserved : goal.loop-net-preserved
loop-net-preserved c =
    let loop = c.loop-net in
    rewritten_next _ _ loop.net _ _ _ _ (omega arith) (omega arith) (c.single.ensures ∙ ap (λ e. code (single e)) c.first_allowed.ensures) loop.invariant
