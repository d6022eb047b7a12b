-- `block::reader::check_records` meets its contract. The loop's invariant: what is known of the nets below, and that the verdict
-- on the records from here on is the verdict on all of them.
-- Assumes nothing.
use Prim.Native.Nat.{◌-◌, ◌≤◌}
use mathlib.Core.Path.{◌≡◌}
use Rattle.block.specs.Verdict.{verdict}
use Rattle.block.specs.Refusals.{records_from}
use Rattle.block.specs.Read.{Known}
use Rattle.block.proofs.reader.check_records.Given as goal

abbrev pub invariant-loop-net : goal.invariant-loop-net
invariant-loop-net l =
    (l.inputs ≤ l.net) × Known l.file l.net l.inputs l.arrivals × (verdict (records_from l.file l.net (l.nets - l.net)) ≡ verdict (records_from l.file 0 l.nets))
