-- `sheet::drop::greatest_drop` meets its contract.
-- Assumes nothing.
use Rattle.std.proofs.Common.{◌≡◌, max}
use Rattle.laws.specs.Below.{max_below}
use Rattle.sheet.specs.Sheet.{sheet_in}
use Rattle.sheet.specs.Sums.{tick_drop}
use Rattle.sheet.proofs.drop.greatest_drop.Given as goal

abbrev pub invariant-loop-t : goal.invariant-loop-t
invariant-loop-t l = l.most ≡ max l.initial.most (max_below l.t (tick_drop l.table (sheet_in l.sheet)))
