-- `current::pass::pass_ticks` meets its contract.
-- Assumes nothing.
use Rattle.std.proofs.Common.{◌-◌, ◌≤◌}
use Rattle.current.specs.Edges.{Passed}
use Rattle.current.proofs.pass.pass_ticks.Given as goal

abbrev pub invariant-loop-passed : goal.invariant-loop-passed
invariant-loop-passed l =
    (l.gate.delay ≤ l.passed) × (l.passed ≤ 256) × Passed l.gate l.ticks.greater l.ticks.lower l.gate.delay l.passed l.initial.sheet l.sheet

abbrev pub decreases-loop-passed : goal.decreases-loop-passed
decreases-loop-passed l = 256 - l.passed
