-- Waveforms: what each net of a block has at each tick (document 01, "Levels and simulation" and "Envelope"). One definition serves
-- both: excitations go through the block in a simulation, uncertainty sets in an envelope.
use Rattle.std.specs.Prelude.{ℕ, ◌+◌, ◌-◌, Bool, true, false, cond, List, [], eqb, ltb, get_or}
use Rattle.laws.specs.Turn.{in_turn, list_below}
use Rattle.excitation.specs.Excitation.{TwoLevel, l, same, join_excitations, invert_excitation, held_before, held_after}
use Rattle.excitation.specs.UncertaintySet.{UncertaintySet, member, single, join_sets, invert_set, held_before_set, held_after_set}
use Rattle.excitation.specs.declared.Excitation.{Excitation}
use Rattle.block.specs.Block.{switching_tick}
use Rattle.block.specs.Gate.{gate_value}
use Rattle.block.specs.Kind.{kind_of, rule_of}
use Rattle.block.specs.Record.{File, is_input}
use Rattle.block.specs.View.{gate_of, pin_of}
use Rattle.block.specs.declared.Gate.{Gate}
use Rattle.fill.specs.Fill.{filled}

-- A waveform: what a net has before tick 0, and what it has at ticks 0 to 255.
pub record Waveform (A : Type 0) : Type 0 where
  pub before : A
  pub ticks : List A

-- What a net has d ticks before tick t.
unfoldable pub earlier : {A : Type 0} → ℕ → ℕ → Waveform A → A
earlier d t w = cond (ltb t d) w.before (get_or w.ticks (t - d) w.before)

-- The values that go through a block.
pub record Values : Type 1 where
  pub Value : Type 0
  -- What a pin without a net has; no accepted file has one.
  pub none : Value
  -- How two pins are joined by a function of two levels, and how a result is turned over.
  pub join : TwoLevel → Value → Value → Value
  pub invert : Value → Value
  -- The first levels held, and the second.
  pub before : Value → Value
  pub after : Value → Value
  -- How the gaps in a gate's values at ticks 0 to 255 are filled.
  pub fill : List Value → List Value
  -- Whether an excitation is one that the value allows.
  pub allows : Excitation → Value → Bool

-- In a simulation an excitation allows itself alone, and nothing is filled.
abbrev pub simulation : Values
simulation = record {
  Value = Excitation;
  none = l;
  join = join_excitations;
  invert = invert_excitation;
  before = held_before;
  after = held_after;
  fill = λ values. values;
  allows = same;
}

-- In an envelope a gate's raw sets are filled to the hop limit.
abbrev pub envelope : ℕ → Values
envelope hops = record {
  Value = UncertaintySet;
  none = single l;
  join = join_sets;
  invert = invert_set;
  before = held_before_set;
  after = held_after_set;
  fill = filled hops;
  allows = member;
}

module _ (𝓥 : Values) where
  open 𝓥 use {Value, none, join, invert, before, after, fill}

  -- At its switching tick an input has its value, at earlier ticks its first levels held, later its second. It is never filled.
  unfoldable pub input_waveform : ℕ → Value → Waveform Value
  input_waveform switching value = record {
    before = before value;
    ticks = list_below 256 (λ t. cond (ltb t switching) (before value) (cond (eqb t switching) value (after value)));
  }

  -- What a gate has, from what each of its pins has.
  unfoldable pub gate_from : Gate → (ℕ → Value) → Value
  gate_from gate on_pin = gate_value join invert (rule_of (kind_of gate.kind)) (on_pin 0) (list_below (gate.used - 1) (λ p. on_pin (p + 1)))

  -- The waveform of the net on pin p of a gate, from those of the nets below it.
  unfoldable pub pin_waveform : Gate → List (Waveform Value) → ℕ → Waveform Value
  pin_waveform gate below p = get_or below (pin_of gate p) (record { before = none; ticks = [] })

  -- A gate at tick t has the join of its pins at t − D; in an envelope that is its raw set.
  unfoldable pub gate_at : Gate → List (Waveform Value) → ℕ → Value
  gate_at gate below t = gate_from gate (λ p. earlier gate.delay t (pin_waveform gate below p))

  unfoldable pub gate_waveform : Gate → List (Waveform Value) → Waveform Value
  gate_waveform gate below = record {
    before = gate_from gate (λ p. (pin_waveform gate below p).before);
    ticks = fill (list_below 256 (gate_at gate below));
  }

  -- The waveform of a net, from those of the nets below it and the inputs' values.
  unfoldable pub net_waveform : File → List Value → List (Waveform Value) → ℕ → Waveform Value
  net_waveform file inputs below net =
      elim (is_input file net) [
        | true ↦ input_waveform (switching_tick file net) (get_or inputs net none)
        | false ↦ gate_waveform (gate_of file net) below
      ]

  -- The waveforms of the first n nets.
  unfoldable pub waveforms : File → List Value → ℕ → List (Waveform Value)
  waveforms file inputs = in_turn (net_waveform file inputs)
