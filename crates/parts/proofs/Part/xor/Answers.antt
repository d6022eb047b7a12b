-- `parts::Part::xor` meets its contract.
-- Assumes nothing.
use Rattle.bits.proofs.Bits.{bit_and_lem, bit_or_lem}
use Rattle.parts.specs.Parts.{set_at}
use Rattle.parts.proofs.Joins.{xor_sets_lem}
use Rattle.parts.proofs.Part.xor.Goals as goal

pub returns : goal.returns
unfolding set_at
returns c k = simp (bit_and_lem, bit_or_lem) (xor_sets_lem (set_at c.args.self k) (set_at c.args.other k))
