-- Laws of what a gate has, from what its pins have: `gate_from`. No other proof opens it, but the computed examples and the proof of
-- the code that joins pins.
-- Assumes nothing.
use Prim.Native.Nat.{ℕ, ◌+◌, ◌-◌, ◌≤◌, ◌<◌}
use mathlib.Core.Path.{◌≡◌, ap, sym, ◌∙◌}
use native.Mathlib.Omega.{arith}
use Rattle.laws.specs.Turn.{list_below}
use Rattle.laws.proofs.Pairs.{pairs_list}
use Rattle.laws.proofs.Turn.{list_same, list_map}
use Rattle.excitation.specs.UncertaintySet.{UncertaintySet, ◌∈◌, single, Held}
use Rattle.excitation.specs.declared.Excitation.{Excitation}
use Rattle.block.proofs.Gates.{gate_contains, gate_holds, gate_single}
use Rattle.block.specs.Gate.{gate_value, gate_set}
use Rattle.block.specs.Kind.{kind_of, rule_of}
use Rattle.block.specs.declared.Gate.{Gate}
use Rattle.waveform.specs.Waveform.{Values, simulation, envelope, gate_from}

-- A gate is made of its own pins alone.
pub gate_same : (𝓥 : Values) (gate : Gate) (f g : ℕ → 𝓥.Value) → 1 ≤ gate.used
    → ((p : ℕ) → p < gate.used → f p ≡ g p) → gate_from 𝓥 gate f ≡ gate_from 𝓥 gate g
unfolding gate_from
gate_same 𝓥 gate f g some h =
    let rest : list_below (gate.used - 1) (λ p. f (p + 1)) ≡ list_below (gate.used - 1) (λ p. g (p + 1)) =
    list_same (gate.used - 1) (λ p. f (p + 1)) (λ p. g (p + 1)) (f 0) (λ p l. h (p + 1) (omega arith)) in
    ap (λ first. gate_value 𝓥.join 𝓥.invert (rule_of (kind_of gate.kind)) first (list_below (gate.used - 1) (λ p. f (p + 1)))) (h 0 (omega arith))
    ∙ ap (gate_value 𝓥.join 𝓥.invert (rule_of (kind_of gate.kind)) (g 0)) rest

module _ (hops : ℕ) (gate : Gate) where
  -- Of members of sets it is a member.
  pub from_within : (f : ℕ → Excitation) (g : ℕ → UncertaintySet) → ((p : ℕ) → f p ∈ g p)
      → gate_from simulation gate f ∈ gate_from (envelope hops) gate g
  unfolding gate_from
  from_within f g h =
      gate_contains (rule_of (kind_of gate.kind)) (f 0) (g 0) (h 0) (pairs_list ◌∈◌ (gate.used - 1) _ _ (λ p q. h (p + 1)))

  -- Of sets that hold their level it holds its level.
  pub from_held : (g : ℕ → UncertaintySet) → 1 ≤ gate.used → ((p : ℕ) → p < gate.used → Held (g p))
      → Held (gate_from (envelope hops) gate g)
  unfolding gate_from
  from_held g some h =
      gate_holds (rule_of (kind_of gate.kind)) (g 0) (gate.used - 1) (λ p. g (p + 1)) (h 0 (omega arith)) (λ p l. h (p + 1) (omega arith))

  -- Of sets of one member it is the set of one member.
  pub from_single : (f : ℕ → Excitation) → gate_from (envelope hops) gate (λ p. single (f p)) ≡ single (gate_from simulation gate f)
  unfolding gate_from
  from_single f =
      ap (gate_set (rule_of (kind_of gate.kind)) (single (f 0))) (sym (list_map single (gate.used - 1) (λ p. f (p + 1))))
      ∙ gate_single (rule_of (kind_of gate.kind)) (f 0) (list_below (gate.used - 1) (λ p. f (p + 1)))
