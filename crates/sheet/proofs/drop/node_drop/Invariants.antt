-- `sheet::drop::node_drop` meets its contract.
-- Assumes nothing.
use Rattle.std.proofs.Common.{◌≡◌, ◌+◌, ◌*◌, get_or}
use Rattle.sheet.specs.Sheet.{sheet_in}
use Rattle.sheet.proofs.Totals.{drop_part}
use Rattle.sheet.proofs.drop.node_drop.Given as goal

abbrev pub invariant-loop-contact : goal.invariant-loop-contact
invariant-loop-contact l = l.sum ≡ drop_part (λ c. get_or l.table (16 * l.node + c) 0) (sheet_in l.sheet) l.contact l.t
