-- `parts::Part::at_ticks` meets its contract.
-- Assumes nothing.
use mathlib.Core.Path.{◌∙◌}
use borrow.Author.Rules.{rules}
use Rattle.bits.specs.Bits.{bit_at}
use Rattle.excitation.proofs.Sets.{four_members}
use Rattle.parts.specs.Parts.{set_at}
use Rattle.parts.proofs.Delays.{either_set}
use Rattle.parts.proofs.Part.at_ticks.Goals as goal

pub returns : goal.returns
unfolding set_at
returns c k h =
    four_members (search rules) (search rules) (search rules) (search rules)
    ∙ either_set (bit_at c.args.ticks k) (set_at c.args.self k) (set_at c.args.other k)
