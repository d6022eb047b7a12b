-- `current::level::level_in_256ths` meets its contract.
-- Assumes nothing.
use Rattle.std.proofs.Common.{refl, arith}
use Rattle.current.specs.Levels.{level_in256ths}
use Rattle.current.proofs.Levels.{scaled_fits}
use Rattle.current.proofs.level.level_in_256ths.Goals as goal

pub returns : goal.returns
unfolding level_in256ths
returns c = (
  rw (c.from.ensures, c.from-2.ensures) refl,
  omega (arith, scaled_fits {factor = c.from-2.result} c.requires c.from.ensures (omega (arith, c.from-2.ensures))),
)
