-- `parts::Part::low` meets its contract.
-- Assumes nothing.
use Rattle.bits.proofs.Bits.{bit_and_lem, bit_zero}
use Rattle.parts.specs.Parts.{set_at}
use Rattle.parts.proofs.Joins.{low_sets_lem}
use Rattle.parts.proofs.Part.low.Goals as goal

pub returns : goal.returns
unfolding set_at
returns c k = simp (bit_and_lem, bit_zero, c.some.ensures, c.some-2.ensures) (low_sets_lem (set_at c.args.self k) (set_at c.args.other k))
