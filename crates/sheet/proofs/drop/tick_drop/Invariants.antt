-- `sheet::drop::tick_drop` meets its contract.
-- Assumes nothing.
use Rattle.std.proofs.Common.{◌≡◌}
use Rattle.laws.specs.Below.{max_below}
use Rattle.sheet.specs.Sheet.{drop_at, sheet_in}
use Rattle.sheet.proofs.drop.tick_drop.Given as goal

abbrev pub invariant-loop-node : goal.invariant-loop-node
invariant-loop-node l = l.most ≡ max_below l.node (λ n. drop_at l.table (sheet_in l.sheet) n l.t)
