-- `bench::Earlier::knows` meets its contract.
-- Assumes nothing.
use mathlib.Core.Path.{sym, ◌∙◌}
use Rattle.bench.proofs.Lookups.{placed}
use Rattle.bench.proofs.GivenNames.{known_held, known_given}
use Rattle.bench.proofs.Earlier.knows.Goals as goal

pub returns-then-is_some : goal.returns-then-is_some
returns-then-is_some c =
    rw c.if-is_some.true (known_held _ (placed c.args.self.now.names.now c.args.name _ c.position.ensures) (sym c.is_some.ensures ∙ c.if-is_some.true))

pub returns-else-is_some : goal.returns-else-is_some
returns-else-is_some c = known_given _ (placed c.args.self.now.names.now c.args.name _ c.position.ensures) (sym c.is_some.ensures ∙ c.if-is_some.false) _ c.gives.ensures
