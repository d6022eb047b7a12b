-- `excitation::Set::held_after` meets its contract. The table in the code is compared, entry by entry, with the values of its rule.
-- Assumes nothing.
use Rattle.laws.specs.Turn.{in_turn, list_below}
use Rattle.excitation.specs.Excitation.{held_after}
use Rattle.excitation.specs.UncertaintySet.{code, decode, member, each}
use Rattle.excitation.specs.Table.{each_entry}
use Rattle.excitation.proofs.Lookup.{each_at}
use Rattle.excitation.proofs.Set.held_after.Goals as goal

pub returns : goal.returns
unfolding in_turn list_below each_entry code decode member each
returns c = each_at held_after c.args.self.code
