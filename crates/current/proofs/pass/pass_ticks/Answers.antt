-- `current::pass::pass_ticks` meets its contract.
-- Assumes nothing.
use Rattle.std.proofs.Common.{◌≡◌, arith}
use Rattle.current.proofs.Edges.{passed_all, passed_none, passed_more}
use Rattle.current.proofs.pass.pass_ticks.Goals as goal

pub loop-passed-init : goal.loop-passed-init
loop-passed-init c =
    let in_time = c.requires.1.greater_from.in_time in
    (omega arith, in_time, passed_none _ _ _ _)

pub loop-passed-preserved : goal.loop-passed-preserved
loop-passed-preserved c =
    let loop = c.loop-passed in
    let late = loop.invariant.0 in
    let step = c.pass_run-passed.ensures in
    let further = step.0 in
    (omega arith, step.1, passed_more _ _ _ late (omega arith) loop.invariant.2 step.2)

pub returns : goal.returns
returns c =
    let loop = c.loop-passed in
    let ticks = c.new-ticks.ensures in
    let e : loop.passed ≡ 256 = (let in_time = loop.invariant.1 in omega arith) in
    passed_all c.requires.1.fields ticks.1 c.requires.1 (rw (e, ticks.0) at loop.invariant.2)
