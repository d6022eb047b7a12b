-- `estimate::read_input`: what a further read leaves of the invariant.
-- Assumes nothing.
use Rattle.std.proofs.Common.{rules, arith, length, ◌-◌}
use Rattle.estimate.proofs.Inputs.{read_on}
use Rattle.estimate.proofs.read_input.Goals as goal

pub loop-done-preserved : goal.loop-done-preserved
loop-done-preserved g c =
    let few = c.in_ok-n.ensures.bound.0 in
    let long = c.read.auto.buf in (
      search rules,
      search rules,
      read_on _ _ _ c.loop-done.done (length c.loop-done.room - c.loop-done.done) c.in_ok-n.n c.loop-done.room c.read.new.buf (omega arith) few
          c.loop-done.invariant.2 c.in_ok-n.ensures.bytes.0,
    )
