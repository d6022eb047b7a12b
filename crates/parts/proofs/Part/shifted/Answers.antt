-- `parts::Part::shifted` meets its contract.
-- Assumes nothing.
use Prim.Native.Nat.{◌+◌, ◌-◌}
use mathlib.Core.Path.{◌∙◌}
use lib.Dec.{ltb}
use borrow.Author.Rules.{rules}
use Rattle.excitation.proofs.Sets.{four_members}
use Rattle.parts.specs.Parts.{set_at}
use Rattle.parts.proofs.Delays.{either_set}
use Rattle.parts.proofs.Part.shifted.Goals as goal

pub returns : goal.returns
unfolding set_at
returns c k h =
    let s = c.args in
    four_members (search rules) (search rules) (search rules) (search rules)
    ∙ either_set (ltb k s.d) (set_at s.before (k + 64 - s.d)) (set_at s.self (k - s.d))
