-- Waveforms of sets in the lent work buffer: 160 bytes a net. Its sets at ticks 0 to 255 are a row of 128 bytes (`rows`), byte 128 has
-- its set before tick 0, byte 129 its arrival, byte 130 the tick after which its sets are the same; the others say nothing.
use Rattle.std.specs.Prelude.{ℕ, ◌+◌, ◌*◌, ◌≤◌, ◌<◌, cond, List, ◌≡◌, eqb, ltb, length, get_or}
use Rattle.laws.specs.Below.{max_below}
use Rattle.laws.specs.Settled.{SettledAfter}
use Rattle.laws.specs.Turn.{list_below}
use Rattle.excitation.specs.UncertaintySet.{UncertaintySet, decode, held_before_set, held_after_set}
use Rattle.block.specs.Accepted.{GateRecord}
use Rattle.block.specs.View.{pin_of}
use Rattle.block.specs.declared.Gate.{Gate}
use Rattle.rows.specs.Rows.{HasRow, set_in}
use Rattle.waveform.specs.Waveform.{Waveform, envelope, gate_waveform, input_waveform}

-- Byte k of the 160 of a net.
abbrev pub row_byte : List ℕ → ℕ → ℕ → ℕ
row_byte work net k = get_or work (160 * net + k) 0

-- The set of a net before tick 0.
abbrev pub before_in : List ℕ → ℕ → UncertaintySet
before_in work net = decode (row_byte work net 128)

-- The waveform of a net.
unfoldable pub waveform_in : List ℕ → ℕ → Waveform UncertaintySet
waveform_in work net = record { before = before_in work net; ticks = list_below 256 (set_in work net) }

unfoldable pub waveforms_in : List ℕ → ℕ → List (Waveform UncertaintySet)
waveforms_in work n = list_below n (waveform_in work)

-- The arrival of a net.
abbrev pub arrival_in : List ℕ → ℕ → ℕ
arrival_in work net = row_byte work net 129

unfoldable pub arrivals_in : List ℕ → ℕ → List ℕ
arrivals_in work n = list_below n (arrival_in work)

-- The tick after which a net's sets are the same.
abbrev pub last_in : List ℕ → ℕ → ℕ
last_in work net = row_byte work net 130

-- A row whose byte 130 is right: the net is settled after that tick, which is at most its arrival.
pub record SettledRow (work : List ℕ) (net : ℕ) : Type 0 where
  pub soon : last_in work net ≤ arrival_in work net
  pub settled : SettledAfter (last_in work net) (set_in work net)

-- The rows of other nets as they were.
pub record OthersKept (net : ℕ) (work after : List ℕ) : Type 0 where
  pub long : length after ≡ length work
  pub kept : (other k : ℕ) → (other ≡ net → ⊥) → k < 160 → row_byte after other k ≡ row_byte work other k

-- The buffer after a net's set before tick 0, its arrival and the tick of its last change were written beside its sets.
pub record EndsWritten (net before arrival last : ℕ) (work after : List ℕ) : Type 0 where
  pub others : OthersKept net work after
  pub sets : (t : ℕ) → t < 256 → set_in after net t ≡ set_in work net t
  pub earliest : row_byte after net 128 ≡ before
  pub arrives : row_byte after net 129 ≡ arrival
  pub settles : row_byte after net 130 ≡ last

-- A gate that uses one to four pins, and room for the rows of their nets.
pub record HasPinRows (work : List ℕ) (gate : Gate) : Type 0 where
  pub some : 1 ≤ gate.used
  pub few : gate.used ≤ 4
  pub row : (p : ℕ) → p < gate.used → HasRow work (pin_of gate p)

-- The greatest arrival of a gate's pins, as the buffer has it.
unfoldable pub latest_in : Gate → List ℕ → ℕ
latest_in gate work = max_below gate.used (λ p. arrival_in work (pin_of gate p))

-- The tick after which all pins of a gate stay the same, as the buffer has it.
unfoldable pub pins_last_in : Gate → List ℕ → ℕ
pins_last_in gate work = max_below gate.used (λ p. last_in work (pin_of gate p))

-- The tick after which a gate's sets stay the same: at most its arrival, and no earlier where it arrives at the last tick.
pub record LastChange (arrival : ℕ) (at : ℕ → UncertaintySet) (last : ℕ) : Type 0 where
  pub soon : last ≤ arrival
  pub after : SettledAfter last at
  pub at_end : arrival ≡ 255 → last ≡ 255

-- The gate of a net whose waveform can be made: its fields passed, there is room for the rows, and its pins are settled.
pub record Ready (net : ℕ) (gate : Gate) (work : List ℕ) : Type 0 where
  pub checked : GateRecord net gate
  pub room : HasRow work net
  pub settled : (p : ℕ) → p < gate.used → SettledRow work (pin_of gate p)
  pub in_time : latest_in gate work + gate.delay ≤ 255

-- The buffer after the waveform of the gate of a net was made. One that arrives at tick 255 may switch there.
pub record GateMade (net : ℕ) (gate : Gate) (hops : ℕ) (work after : List ℕ) : Type 0 where
  pub others : OthersKept net work after
  pub waveform : waveform_in after net ≡ gate_waveform (envelope hops) gate (waveforms_in work net)
  pub arrives : arrival_in after net ≡ latest_in gate work + gate.delay
  pub settled : SettledRow after net
  pub at_end : arrival_in after net ≡ 255 → last_in after net ≡ 255

-- The set of an input at tick t, which switches at one tick.
unfoldable pub input_at : ℕ → UncertaintySet → ℕ → UncertaintySet
input_at switching s t = cond (ltb t switching) (held_before_set s) (cond (eqb t switching) s (held_after_set s))

-- The buffer after the waveform of an input of a set was made.
pub record InputMade (net switching code : ℕ) (work after : List ℕ) : Type 0 where
  pub others : OthersKept net work after
  pub waveform : (hops : ℕ) → waveform_in after net ≡ input_waveform (envelope hops) switching (decode code)
  pub arrives : arrival_in after net ≡ switching
  pub settled : SettledRow after net
