-- `operation::pattern::byte_allowed` meets its contract.
-- Assumes nothing.
use mathlib.Core.Path.{refl}
use Rattle.operation.specs.Pattern.{byte_allowed}
use Rattle.operation.proofs.pattern.byte_allowed.Goals as goal

pub returns : goal.returns
unfolding byte_allowed
returns c = rw (c.contains.ensures, c.from.ensures, c.allowed.ensures.0) refl
