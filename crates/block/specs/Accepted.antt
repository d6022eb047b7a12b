-- What is true of an accepted file. Callers use these facts and open none of the checks.
use Rattle.std.specs.Prelude.{ℕ, ◌*◌, ◌≤◌, ◌<◌, ◌≡◌, true, false, length}
use Rattle.block.specs.declared.Gate.{Gate}
use Rattle.block.specs.Record.{File, net_count, pin_count, allowed, is_input}
use Rattle.block.specs.View.{gate_of, pin_of}
use Rattle.block.specs.Block.{arrival, input_count}

-- The record of an input whose fields passed. It has no pins, and its set is not empty.
pub record InputRecord (file : File) (net : ℕ) : Type 0 where
  pub input : is_input file net ≡ true
  pub no_pins : pin_count file net ≡ 0
  pub allowed_low : 1 ≤ allowed file net
  pub allowed_high : allowed file net ≤ 15

-- Contact, delay, rise and fall within the ranges of check 9.
pub record InRanges (contact delay rise fall : ℕ) : Type 0 where
  pub contact_high : contact ≤ 15
  pub delay_low : 1 ≤ delay
  pub delay_high : delay ≤ 63
  pub rise_low : 1 ≤ rise
  pub rise_high : rise ≤ 127
  pub fall_low : 1 ≤ fall
  pub fall_high : fall ≤ 127

-- The gate of a net whose fields passed.
pub record GateRecord (net : ℕ) (gate : Gate) : Type 0 where
  pub kind_low : 2 ≤ gate.kind
  pub kind_high : gate.kind ≤ 9
  pub pins_low : 1 ≤ gate.used
  pub pins_high : gate.used ≤ 4
  pub pin_below : (p : ℕ) → p < gate.used → pin_of gate p < net
  pub ranges : InRanges gate.contact gate.delay gate.rise gate.fall

-- An accepted file of so many nets and inputs: the inputs come first, then the gates.
pub record AcceptedFile (file : File) (nets inputs : ℕ) : Type 0 where
  pub whole : length file ≡ 20 * nets
  pub net_count_lem : net_count file ≡ nets
  pub input_count_lem : input_count file ≡ inputs
  pub few_nets : nets ≤ 1024
  pub one_input : 1 ≤ inputs
  pub few_inputs : inputs ≤ 64
  pub inputs_first : inputs ≤ nets
  pub input : (net : ℕ) → net < inputs → InputRecord file net
  pub no_input : (net : ℕ) → inputs ≤ net → net < nets → is_input file net ≡ false
  pub gate : (net : ℕ) → inputs ≤ net → net < nets → GateRecord net (gate_of file net)
  pub arrives : (net : ℕ) → net < nets → arrival file net ≤ 255
