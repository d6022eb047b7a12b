-- `operation::pattern::check_pattern` meets its contract. The loop's invariant: the bytes passed are accepted.
-- Assumes nothing.
use mathlib.Core.Path.{◌≡◌, sym}
use native.Mathlib.Omega.{arith}
use Rattle.block.proofs.Verdicts.{handed_on}
use Rattle.operation.proofs.Patterns.{bytes_none, bytes_refused, bytes_next}
use Rattle.operation.proofs.pattern.check_pattern.Goals as goal

pub loop-net-init : goal.loop-net-init
loop-net-init c = bytes_none _ _

pub returns-in_err-check : goal.returns-in_err-check
returns-in_err-check c =
    let allowed = rw (c.of.ensures.0, c.of.ensures.1) at c.byte_allowed-allowed.ensures in
    handed_on c.from_residual.ensures.1
    (bytes_refused _ _ _ c.loop-net.invariant c.check.ensures allowed _ _ c.loop-net-test.true c.in_err-check.was)

pub loop-net-preserved : goal.loop-net-preserved
loop-net-preserved c =
    let allowed = rw (c.of.ensures.0, c.of.ensures.1) at c.byte_allowed-allowed.ensures in
    bytes_next _ _ _ c.loop-net.invariant c.check.ensures allowed c.in_ok-check.was

pub returns : goal.returns
returns c =
    let e : c.loop-net.net ≡ c.args.inputs = omega arith in
    sym (rw e at c.loop-net.invariant)
