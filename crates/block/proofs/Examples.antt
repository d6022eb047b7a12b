-- What the definitions say of the example blocks and of gates of three pins, by computation.
-- Assumes nothing.
use mathlib.Core.Path.{refl}
use mathlib.Core.Bool.{xor}
use Rattle.laws.specs.Below.{all_below, any_below, max_below, count_below}
use Rattle.laws.specs.Turn.{in_turn, list_below}
use Rattle.excitation.specs.UncertaintySet.{member, code, decode, join_sets, each, size}
use Rattle.block.specs.Record.{is_input}
use Rattle.block.specs.Kind.{kind_of}
use Rattle.block.specs.Block.{latest_pin, arrival_from, arrivals, inputs_below, frame, choice_count, feeds, fed_from, cone_size, last_pulse_end, settling_tick, switching_tick}
use Rattle.block.specs.Verdict.{verdict}
use Rattle.block.specs.Refusals.{within, zero_bytes, starts_with_input, file_checks, kind_known, input_in_place, pin_count_right, input_spare_zero, unused_pins_zero, gate_spare_zero, pins_below, gate_in_range, input_in_range, arrival_in_time, input_checks, gate_checks, field_checks, record_checks, records_from, read_checks, read_of}
use Rattle.block.specs.Gate.{gate_value}
use Rattle.block.specs.View.{gate_of}
use Rattle.block.specs.Examples.{BlockExamples}

pub block_examples : BlockExamples
unfolding all_below any_below max_below count_below in_turn list_below xor member code decode join_sets each size is_input kind_of
    latest_pin arrival_from arrivals inputs_below frame choice_count feeds fed_from cone_size last_pulse_end settling_tick switching_tick gate_of verdict within zero_bytes
    starts_with_input file_checks kind_known input_in_place pin_count_right input_spare_zero unused_pins_zero gate_spare_zero pins_below gate_in_range
    input_in_range arrival_in_time input_checks gate_checks field_checks record_checks records_from read_checks read_of gate_value
block_examples = record {
  read_S = refl;
  read_F = refl;
  read_R = refl;
  read_empty = refl;
  read_19 = refl;
  read_faults = refl;
  fields_F = (refl, refl, refl);
  fields_R = (refl, refl, refl);
  arrivals_F = refl;
  arrivals_R = refl;
  frame_R = refl;
  patterns_F = refl;
  patterns_R = refl;
  cone_S = refl;
  cones_F = (refl, refl);
  cones_R = (refl, refl);
  settling_S = refl;
  settling_F = refl;
  settling_R = refl;
  nand_of_three = refl;
  nor_of_three = refl;
  xnor_of_three = refl;
  nand_sets_of_three = refl;
}
