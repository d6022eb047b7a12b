-- `simulator::pattern_codes` meets its contract.
-- Assumes nothing.
use mathlib.Core.Path.{ap, ◌∙◌}
use native.Mathlib.Omega.{arith}
use Rattle.laws.proofs.Rewritten.{rewritten_none, rewritten_next, rewritten_to, rewritten_first}
use Rattle.excitation.specs.UncertaintySet.{code, single}
use Rattle.simulator.proofs.pattern_codes.Goals as goal

pub loop-net-init : goal.loop-net-init
loop-net-init c = rewritten_none _ _ _

pub bounds-pattern-net : goal.bounds-pattern-net
bounds-pattern-net c = omega (arith, c.requires)

pub bounds-codes-net : goal.bounds-codes-net
bounds-codes-net c = omega (arith, c.requires, c.loop-net.invariant.long)

pub loop-net-preserved : goal.loop-net-preserved
loop-net-preserved c =
    let l = c.loop-net in
    rewritten_next _ _ l.net _ _ _ _ (omega arith) (omega (arith, c.requires))
    (c.single.ensures ∙ ap (λ e. code (single e)) c.from.ensures) l.invariant

pub returns : goal.returns
returns c = record { at = rewritten_first _ _ _ _ (rewritten_to _ _ _ c.args.inputs _ _ (omega arith) c.loop-net.invariant) }
