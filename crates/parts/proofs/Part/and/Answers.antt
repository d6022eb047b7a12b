-- `parts::Part::and` meets its contract.
-- Assumes nothing.
use Rattle.bits.proofs.Bits.{bit_and_lem, bit_or_lem}
use Rattle.parts.specs.Parts.{set_at}
use Rattle.parts.proofs.Joins.{and_sets_lem}
use Rattle.parts.proofs.Part.and.Goals as goal

pub returns : goal.returns
unfolding set_at
returns c k = simp (bit_and_lem, bit_or_lem, c.some.ensures, c.some-2.ensures) (and_sets_lem (set_at c.args.self k) (set_at c.args.other k))
