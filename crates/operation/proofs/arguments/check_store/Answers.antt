-- `operation::arguments::check_store` meets its contract.
-- Assumes nothing.
use Rattle.operation.proofs.Sizes.{store_fits}
use Rattle.operation.proofs.arguments.check_store.Goals as goal

pub returns : goal.returns
returns c = rw store_fits at c.check.ensures
