-- `parts::Part::held` meets its contract.
-- Assumes nothing.
use Rattle.excitation.proofs.Sets.{four_members}
use Rattle.parts.specs.Parts.{set_at}
use Rattle.excitation.specs.UncertaintySet.{decode}
use Rattle.parts.proofs.Part.held.Goals as goal

pub returns : goal.returns
unfolding set_at decode
returns c k h =
    four_members (c.all_bits.ensures k h) (c.all_bits-2.ensures k h) (c.all_bits-3.ensures k h)
    (c.all_bits-4.ensures k h)
