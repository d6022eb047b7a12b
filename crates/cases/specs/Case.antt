-- Cases (document 01, "Search"): the states of a search.
use Rattle.std.specs.Prelude.{ℕ, zero, suc, Bool, true, false, not, cond, List, [], ◌∷◌, ◌++◌, map, ltb, length, get_or, set}
use Rattle.laws.specs.Below.{all_below}
use Rattle.excitation.specs.Excitation.{l, h, hl, lh, excitation_of}
use Rattle.excitation.specs.UncertaintySet.{UncertaintySet, member, empty, single, size}
use Rattle.excitation.specs.declared.Excitation.{Excitation}

-- Document 01's case, a frame inside the block's: given by the set of each input.
abbrev pub Case : Type 0
Case = List UncertaintySet

-- Document 01's undecided input: a set of more than one member.
unfoldable pub undecided : UncertaintySet → Bool
undecided s = ltb 1 (size s)

-- Whether every input of a case is decided.
unfoldable pub decided : Case → Bool
decided case = all_below (length case) (λ input. not (undecided (get_or case input empty)))

-- Document 01's probe of a case: at each input the first allowed of lh, hl, h, l.
unfoldable pub first_allowed : UncertaintySet → Excitation
first_allowed s = cond (member lh s) lh (cond (member hl s) hl (cond (member h s) h l))

unfoldable pub probe : Case → List Excitation
probe case = map first_allowed case

-- The evaluation of a case: where every input is decided, what the simulation of its one pattern gives; else what its envelope gives.
unfoldable pub evaluation_of : {A : Type 0} → (List Excitation → A) → (Case → A) → Case → A
evaluation_of simulated enveloped case = elim (decided case) [ true ↦ simulated (probe case) | false ↦ enveloped case ]

-- The excitations that a set allows, of the first n of l, h, hl, lh.
unfoldable pub members_below : ℕ → UncertaintySet → List Excitation
members_below zero s = []
members_below (suc n) s = members_below n s ++ cond (member (excitation_of n) s) (excitation_of n ∷ []) []

-- The children of a case that is split at an input, of the first n of l, h, hl, lh.
unfoldable pub children_below : ℕ → ℕ → Case → List Case
children_below n input case = map (λ e. set case input (single e)) (members_below n (get_or case input empty))

-- Document 01's children, one for each excitation that the set allows, in order l, h, hl, lh.
abbrev pub children : ℕ → Case → List Case
children input case = children_below 4 input case
