-- Currents, and the sheet of a block (document 01, "Levels and simulation"; request 5). One definition serves a simulation, in which a tick
-- allows one edge at most, and an envelope.
use Rattle.std.specs.Prelude.{ℕ, suc, ◌+◌, max, Bool, true, false, cond, not, ◌&&◌, ◌||◌, List, [], ◌∷◌, map, ◌==◌, slice_index_or}
use Rattle.laws.specs.Below.{sum_below}
use Rattle.excitation.specs.Excitation.{hl, lh}
use Rattle.block.specs.Record.{File, net_count, contact, is_input}
use Rattle.block.specs.View.{gate_of}
use Rattle.block.specs.declared.Gate.{Gate}
use Rattle.sheet.specs.Sheet.{Sheet}
use Rattle.waveform.specs.Waveform.{Waveform, Values, waveforms}
use Rattle.current.specs.Pulse.{pulse_at}

-- A transition that a gate may have: its tick, and the edges that the value there allows.
pub record Transition : Type 0 where
  pub tick : ℕ
  pub lh : Bool
  pub hl : Bool

-- The pulse at tick t of a gate's edge at tick x, P being the peak for that edge; 0 where the edge is not allowed.
unfoldable pub edge_pulse : Gate → ℕ → Bool → ℕ → ℕ → ℕ
edge_pulse gate P allowed x t = cond allowed (pulse_at P gate.rise gate.fall gate.delay x t) 0

-- The greater of the hl and the lh pulse at tick t that a transition allows. A tick that allows both counts once.
unfoldable pub allowed_pulse : Gate → Transition → ℕ → ℕ
allowed_pulse gate transition t =
    max
    (edge_pulse gate gate.peaks.lh transition.lh transition.tick t)
    (edge_pulse gate gate.peaks.hl transition.hl transition.tick t)

-- A gate's current at tick t: the sum, over its transitions, of the greater pulse that each allows.
unfoldable pub gate_current : Gate → List Transition → ℕ → ℕ
gate_current gate [] t = 0
gate_current gate (transition ∷ rest) t = allowed_pulse gate transition t + gate_current gate rest t

-- The transitions that some values allow, by a test for lh and one for hl. The first of the values is that of tick x. A tick whose value
-- allows neither edge has no transition.
unfoldable pub transitions_from : {A : Type 0} → (A → Bool) → (A → Bool) → ℕ → List A → List Transition
transitions_from rises falls x [] = []
transitions_from rises falls x (value ∷ later) =
    let rest = transitions_from rises falls (suc x) later in
    cond (rises value || falls value) (record { tick = x; lh = rises value; hl = falls value } ∷ rest) rest

-- Whether a net is a gate of a contact. Inputs draw no current.
unfoldable pub draws_at : File → ℕ → ℕ → Bool
draws_at file c net = not (is_input file net) && contact file net == c

-- What a net adds to the current of contact c at tick t.
unfoldable pub part : File → List (List Transition) → ℕ → ℕ → ℕ → ℕ
part file transitions c t net =
    elim (draws_at file c net) [ true ↦ gate_current (gate_of file net) (slice_index_or transitions net []) t | false ↦ 0 ]

-- A contact's current at tick t: the sum over its gates.
unfoldable pub contact_current : File → List (List Transition) → ℕ → ℕ → ℕ
contact_current file transitions c t = sum_below (net_count file) (part file transitions c t)

module _ (𝓥 : Values) where
  open 𝓥 use {Value, allows}

  -- The transitions that a waveform allows.
  unfoldable pub transitions_of : Waveform Value → List Transition
  transitions_of w = transitions_from (allows lh) (allows hl) 0 w.ticks

  -- The sheet of a block whose inputs have these values.
  unfoldable pub sheet_of : File → List Value → Sheet
  sheet_of file inputs = contact_current file (map transitions_of (waveforms 𝓥 file inputs (net_count file)))
