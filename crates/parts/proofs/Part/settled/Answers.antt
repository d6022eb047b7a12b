-- `parts::Part::settled` meets its contract.
-- Assumes nothing.
use borrow.Author.Rules.{rules}
use Rattle.bits.specs.Bits.{bit_at}
use Rattle.excitation.proofs.Sets.{four_members}
use Rattle.parts.specs.Parts.{set_at}
use Rattle.parts.proofs.Part.settled.Goals as goal

pub returns : goal.returns
unfolding set_at bit_at
returns c k h = four_members (search rules) (search rules) (search rules) (search rules)
