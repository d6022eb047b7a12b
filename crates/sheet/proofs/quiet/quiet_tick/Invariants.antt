-- `sheet::quiet::quiet_tick` meets its contract.
-- Assumes nothing.
use Rattle.std.proofs.Common.{◌≡◌}
use Rattle.laws.specs.Below.{last_below}
use Rattle.sheet.specs.Sheet.{sheet_in, flows_at, quiet_tick}
use Rattle.sheet.proofs.quiet.quiet_tick.Given as goal

abbrev pub invariant-loop-t : goal.invariant-loop-t
invariant-loop-t l = quiet_tick (sheet_in l.sheet) ≡ last_below l.t (flows_at (sheet_in l.sheet))
