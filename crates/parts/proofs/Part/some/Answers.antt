-- `parts::Part::some` meets its contract.
-- Assumes nothing.
use Rattle.bits.proofs.Bits.{bit_or_lem}
use Rattle.parts.specs.Parts.{set_at}
use Rattle.parts.proofs.Part.some.Goals as goal

pub returns : goal.returns
unfolding set_at
returns c k = simp bit_or_lem
