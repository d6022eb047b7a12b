-- `excitation::joins` meets its contract.
-- Assumes nothing.
use mathlib.Core.Bool.{xor}
use mathlib.Core.Path.{refl}
use Rattle.laws.specs.Turn.{in_turn, list_below}
use Rattle.excitation.specs.Table.{join_entry, join_table}
use Rattle.excitation.specs.UncertaintySet.{code, decode, member, join_sets}
use Rattle.excitation.proofs.joins.Goals as goal

pub invariant_of-result : goal.invariant_of-result
unfolding join_table in_turn list_below join_entry xor code decode member join_sets
invariant_of-result c = record { right = refl }
