-- `parts::number::level_of` meets its contract.
-- Assumes nothing.
use Rattle.parts.proofs.Numbers.{level_read}
use Rattle.parts.proofs.number.level_of.Goals as goal

pub returns : goal.returns
returns c =
    level_read c.args.by c.args.first c.args.second _ c.join.ensures c.requires.0 c.requires.1
