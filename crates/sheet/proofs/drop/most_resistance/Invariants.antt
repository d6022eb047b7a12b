-- `sheet::drop::most_resistance` meets its contract.
-- Assumes nothing.
use Rattle.std.proofs.Common.{◌≡◌, ◌+◌, ◌*◌, get_or}
use Rattle.laws.specs.Below.{max_below}
use Rattle.sheet.proofs.drop.most_resistance.Given as goal

abbrev pub invariant-loop-node : goal.invariant-loop-node
invariant-loop-node l = l.most ≡ max_below l.node (λ n. get_or l.table (16 * n + l.contact) 0)
