-- Laws of what a gate makes of its pins, joined one after the other.
-- Assumes nothing.
use Prim.Native.Nat.{ℕ, ◌+◌, ◌-◌, ◌≤◌, ◌<◌}
use mathlib.Core.Bool.{true, false}
use mathlib.Core.List.{List, [], ◌∷◌, foldl, foldl-append}
use mathlib.Core.Path.{◌≡◌, refl, ap, sym, ◌∙◌}
use native.Mathlib.Omega.{arith}
use lib.ListN.{length, get_or, take, drop}
use Rattle.std.proofs.lemmas.Grind.{get_or_after_one}
use Rattle.std.proofs.lemmas.List.{length-take, get_or-take}
use Rattle.laws.specs.Turn.{in_turn, list_below}
use Rattle.laws.proofs.Turn.{list_next}
use Rattle.excitation.specs.Excitation.{TwoLevel, levels_of}
use Rattle.excitation.specs.UncertaintySet.{UncertaintySet, code, decode, join_sets, invert_set}
use Rattle.excitation.specs.declared.Join.{Join}
use Rattle.excitation.proofs.Codes.{decode_code}
use Rattle.block.specs.Gate.{gate_value}
use Rattle.block.specs.Kind.{kind_of, rule_of}
use Rattle.block.specs.View.{net_of, pin_of}
use Rattle.block.specs.declared.Gate.{Gate}
use Rattle.block.specs.declared.kind.Rule.{Rule}
use Rattle.parts.specs.Parts.{set_at, numbered, number_of}
use Rattle.parts.specs.declared.Part.{Part}
use Rattle.parts.proofs.Numbers.{numbered_is}
use Rattle.rows.specs.Rows.{set_in}
use Rattle.waveform.specs.Pins.{joined_below, made_before, made_at, PartIs}
use Rattle.waveform.specs.Rows.{before_in}
use Rattle.waveform.specs.Waveform.{envelope, gate_from}

-- The nets of a gate's first n pins, and of n pins from the second on, by their places.

pub first_pins : (gate : Gate) (n i : ℕ) → i < length (take n gate.pins) → (get_or (take n gate.pins) i (net_of 0)).0 ≡ pin_of gate i
first_pins gate n i low = ap (λ net. net.0) (get_or-take n gate.pins i (net_of 0) (omega (arith, length-take n gate.pins)))

pub later_pins : (gate : Gate) (n i : ℕ) → i < length (take n (drop 1 gate.pins))
    → (get_or (take n (drop 1 gate.pins)) i (net_of 0)).0 ≡ pin_of gate (i + 1)
later_pins gate n i low =
    let next : 1 + i ≡ i + 1 = omega arith in
    ap (λ net. net.0) (get_or-take n (drop 1 gate.pins) i (net_of 0) (omega (arith, length-take n (drop 1 gate.pins))))
    ∙ ap (λ net. net.0) (get_or_after_one gate.pins i (net_of 0)) ∙ ap (pin_of gate) next

module _ (f : TwoLevel) (on_pin : ℕ → UncertaintySet) where
  -- One pin alone.
  pub joined_one : joined_below f 1 on_pin ≡ on_pin 0
  unfolding joined_below list_below in_turn
  joined_one = refl

  -- One pin more is joined.
  pub joined_next : (p : ℕ) → 1 ≤ p → joined_below f (p + 1) on_pin ≡ join_sets f (joined_below f p on_pin) (on_pin p)
  unfolding joined_below
  joined_next p h =
      let more : p + 1 - 1 ≡ p - 1 + 1 = omega arith in
      let last : p - 1 + 1 ≡ p = omega arith in
      ap (λ n. foldl (join_sets f) (on_pin 0) (list_below n (λ i. on_pin (i + 1)))) more
      ∙ ap (foldl (join_sets f) (on_pin 0)) (list_next (p - 1) (λ i. on_pin (i + 1)))
      ∙ foldl-append (join_sets f) (on_pin 0) (list_below (p - 1) (λ i. on_pin (i + 1))) (on_pin (p - 1 + 1) ∷ [])
      ∙ ap (λ n. join_sets f (joined_below f p on_pin) (on_pin n)) last

-- The words and the table of joins join alike.
pub join_alike : (by : Join) (f : ℕ) → f ≡ number_of (levels_of by) → join_sets (numbered f) ≡ join_sets (levels_of by)
join_alike by f e = ap join_sets (ap numbered e ∙ numbered_is (levels_of by))

-- So they join any number of pins.
joined_alike : (by : Join) (f n : ℕ) (on_pin : ℕ → UncertaintySet) → f ≡ number_of (levels_of by)
    → joined_below (numbered f) n on_pin ≡ joined_below (levels_of by) n on_pin
unfolding joined_below
joined_alike by f n on_pin e = ap (λ join. foldl join (on_pin 0) (list_below (n - 1) (λ p. on_pin (p + 1)))) (join_alike by f e)

module _ (gate : Gate) (rule : Rule) (is : rule ≡ rule_of (kind_of gate.kind)) where
  -- A gate is its pins joined by the function of its kind, turned over or not.

  gate_joined : (on_pin : ℕ → UncertaintySet) → rule.inverts ≡ false
      → joined_below (levels_of rule.join) gate.used on_pin ≡ gate_from (envelope 1) gate on_pin
  unfolding gate_from gate_value joined_below
  gate_joined on_pin b = rw (sym is, b) refl

  gate_inverted : (on_pin : ℕ → UncertaintySet) → rule.inverts ≡ true
      → invert_set (joined_below (levels_of rule.join) gate.used on_pin) ≡ gate_from (envelope 1) gate on_pin
  unfolding gate_from gate_value joined_below
  gate_inverted on_pin b = rw (sym is, b) refl

  -- What the code makes of its pins before tick 0, by the table.
  module _ (work : List ℕ) (joined : ℕ)
      (e : decode joined ≡ joined_below (levels_of rule.join) gate.used (λ p. before_in work (pin_of gate p))) where
    pub before_joined : rule.inverts ≡ false → decode joined ≡ made_before gate work
    unfolding made_before
    before_joined b = e ∙ gate_joined _ b

    pub before_inverted : (after : ℕ) → after ≡ code (invert_set (decode joined)) → rule.inverts ≡ true → decode after ≡ made_before gate work
    unfolding made_before
    before_inverted after a b = ap decode a ∙ decode_code _ ∙ ap invert_set e ∙ gate_inverted _ b

  -- What it makes of them at 64 ticks, by the words and the number of the function.
  module _ (work : List ℕ) (f from : ℕ) (number : f ≡ number_of (levels_of rule.join)) (joined : Part)
      (e : PartIs (λ t. joined_below (numbered f) gate.used (λ p. set_in work (pin_of gate p) t)) from joined) where
    pub part_joined : rule.inverts ≡ false → PartIs (made_at gate work) from joined
    unfolding made_at
    part_joined b = record { at = λ k l. e.at k l ∙ joined_alike rule.join f _ _ number ∙ gate_joined _ b }

    pub part_inverted : (after : Part) → ((k : ℕ) → set_at after k ≡ invert_set (set_at joined k)) → rule.inverts ≡ true
        → PartIs (made_at gate work) from after
    unfolding made_at
    part_inverted after a b = record {
      at = λ k l. a k ∙ ap invert_set (e.at k l ∙ joined_alike rule.join f _ _ number) ∙ gate_inverted _ b;
    }
