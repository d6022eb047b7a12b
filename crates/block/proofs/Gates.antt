-- Laws of a gate's value, whatever its kind: of members it is a member of that of sets, of sets that hold their level it holds its
-- level, and of sets of one member it is the set of one member. No other proof opens `gate_value`, but the computed examples and the
-- proof of the code that joins pins.
-- Assumes nothing.
use Prim.Native.Nat.{ℕ, zero, suc, ◌<◌}
use mathlib.Core.Bool.{Bool, true, false, cond}
use mathlib.Core.List.{List, [], ◌∷◌, map, foldl, foldl-append, Forall₂}
use mathlib.Core.Path.{◌≡◌, refl, ap, sym, subst, ◌∙◌}
use native.Mathlib.Omega.{arith}
use Rattle.laws.specs.Turn.{in_turn, list_below}
use Rattle.excitation.specs.declared.Excitation.{Excitation}
use Rattle.excitation.specs.Excitation.{TwoLevel, levels_of, join_excitations, invert_excitation}
use Rattle.excitation.specs.UncertaintySet.{UncertaintySet, ◌∈◌, single, join_sets, invert_set, Held}
use Rattle.excitation.proofs.Held.{join_held, invert_held}
use Rattle.excitation.proofs.OneMember.{join_single, each_single}
use Rattle.excitation.proofs.Sets.{join_contains, each_contains}
use Rattle.block.specs.declared.kind.Rule.{Rule}
use Rattle.block.specs.Gate.{gate_value, gate_excitation, gate_set}

joined_contains : (f : TwoLevel) (a : Excitation) (s : UncertaintySet) {es : List Excitation} {ss : List UncertaintySet} → a ∈ s
    → Forall₂ ◌∈◌ es ss → foldl (join_excitations f) a es ∈ foldl (join_sets f) s ss
joined_contains f a s m Forall₂.nil = m
joined_contains f a s m (Forall₂.cons {a = b} {b = t} n rest) =
    joined_contains f (join_excitations f a b) (join_sets f s t) (join_contains f a b s t m n) rest

invert_contains : (inverts : Bool) (a : Excitation) (s : UncertaintySet) → a ∈ s
    → cond inverts (invert_excitation a) a ∈ cond inverts (invert_set s) s
invert_contains true a s m = each_contains invert_excitation a s m
invert_contains false a s m = m

pub gate_contains : (rule : Rule) (a : Excitation) (s : UncertaintySet) {es : List Excitation} {ss : List UncertaintySet} → a ∈ s
    → Forall₂ ◌∈◌ es ss → gate_excitation rule a es ∈ gate_set rule s ss
unfolding gate_value
gate_contains rule a s m rest =
    invert_contains rule.inverts _ _ (joined_contains (levels_of rule.join) a s m rest)

-- What a gate makes of pins that hold their levels holds its level.

joined_holds : (f : TwoLevel) (s : UncertaintySet) (n : ℕ) (g : ℕ → UncertaintySet) → Held s → ((p : ℕ) → p < n → Held (g p))
    → Held (foldl (join_sets f) s (list_below n g))
unfolding list_below in_turn
joined_holds f s zero g h k = h
joined_holds f s (suc n) g h k =
    subst Held (sym (foldl-append (join_sets f) s (list_below n g) (g n ∷ [])))
    (join_held f _ _ (joined_holds f s n g h (λ p l. k p (omega arith))) (k n (omega arith)))

invert_holds : (inverts : Bool) (s : UncertaintySet) → Held s → Held (cond inverts (invert_set s) s)
invert_holds true s h = invert_held s h
invert_holds false s h = h

pub gate_holds : (rule : Rule) (s : UncertaintySet) (n : ℕ) (g : ℕ → UncertaintySet) → Held s → ((p : ℕ) → p < n → Held (g p))
    → Held (gate_set rule s (list_below n g))
unfolding gate_value
gate_holds rule s n g h k = invert_holds rule.inverts _ (joined_holds (levels_of rule.join) s n g h k)

-- What a gate makes of sets of one member.

joined_single : (f : TwoLevel) (a : Excitation) (bs : List Excitation) → foldl (join_sets f) (single a) (map single bs) ≡ single (foldl (join_excitations f) a bs)
joined_single f a [] = refl
joined_single f a (b ∷ bs) =
    ap (λ s. foldl (join_sets f) s (map single bs)) (join_single f a b) ∙ joined_single f (join_excitations f a b) bs

invert_single : (inverts : Bool) (a : Excitation) (s : UncertaintySet) → s ≡ single a → cond inverts (invert_set s) s ≡ single (cond inverts (invert_excitation a) a)
invert_single true a s e = ap invert_set e ∙ each_single invert_excitation a
invert_single false a s e = e

pub gate_single : (rule : Rule) (a : Excitation) (bs : List Excitation) → gate_set rule (single a) (map single bs) ≡ single (gate_excitation rule a bs)
unfolding gate_value
gate_single rule a bs =
    let f = levels_of rule.join in
    invert_single rule.inverts (foldl (join_excitations f) a bs) _ (joined_single f a bs)
