-- The value of a gate from the values of its pins (document 01, "Excitations and sets"). Excitations in a simulation, uncertainty
-- sets in an envelope.
use Rattle.std.specs.Prelude.{cond}
use mathlib.Core.List.{List, foldl}
use Rattle.excitation.specs.declared.Excitation.{Excitation}
use Rattle.excitation.specs.Excitation.{TwoLevel, levels_of, join_excitations, invert_excitation}
use Rattle.excitation.specs.UncertaintySet.{UncertaintySet, join_sets, invert_set}
use Rattle.block.specs.declared.kind.Rule.{Rule}

-- Document 01's gate: a multi-pin gate joins its pins left to right by AND, OR or XOR; NAND, NOR and XNOR turn the final result over.
unfoldable pub gate_value : {A : Type 0} → (TwoLevel → A → A → A) → (A → A) → Rule → A → List A → A
gate_value join invert rule first rest =
    let joined = foldl (join (levels_of rule.join)) first rest in
    cond rule.inverts (invert joined) joined

-- In a simulation.
abbrev pub gate_excitation : Rule → Excitation → List Excitation → Excitation
gate_excitation = gate_value join_excitations invert_excitation

-- In an envelope, a net on two pins being taken as two independent ones.
abbrev pub gate_set : Rule → UncertaintySet → List UncertaintySet → UncertaintySet
gate_set = gate_value join_sets invert_set
