-- `operation::pattern::check_pattern` meets its contract. The loop's invariant: the bytes passed are accepted.
-- Assumes nothing.
use mathlib.Core.Path.{◌≡◌}
use Rattle.block.specs.Verdict.{Accepted, verdict}
use Rattle.operation.specs.Pattern.{byte_checks}
use Rattle.operation.proofs.pattern.check_pattern.Given as goal

abbrev pub invariant-loop-net : goal.invariant-loop-net
invariant-loop-net l = verdict (byte_checks l.file l.pattern l.net) ≡ Accepted
