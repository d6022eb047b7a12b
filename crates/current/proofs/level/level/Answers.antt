-- `current::level::level` meets its contract.
-- Assumes nothing.
use Rattle.std.proofs.Common.{refl}
use Rattle.current.specs.Levels.{level_by}
use Rattle.current.proofs.level.level.Goals as goal

pub returns : goal.returns
unfolding level_by
returns c = rw c.level_in_256ths-fine.ensures.0 refl
