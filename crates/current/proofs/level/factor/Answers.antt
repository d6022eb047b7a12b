-- `current::level::factor` meets its contract.
-- Assumes nothing.
use Rattle.std.proofs.Common.{refl}
use Rattle.current.specs.Levels.{factor_of}
use Rattle.current.proofs.level.factor.Goals as goal

pub returns : goal.returns
unfolding factor_of
returns c = refl
