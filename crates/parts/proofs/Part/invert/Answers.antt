-- `parts::Part::invert` meets its contract.
-- Assumes nothing.
use Rattle.parts.specs.Parts.{set_at}
use Rattle.parts.proofs.Joins.{invert_swaps}
use Rattle.parts.proofs.Part.invert.Goals as goal

pub returns : goal.returns
unfolding set_at
returns c k = invert_swaps (set_at c.args.self k)
