-- What the definitions say of the example texts, by computation.
-- Assumes nothing.
use mathlib.Core.Path.{refl}
use Rattle.laws.specs.Below.{all_below, max_below, count_below}
use Rattle.laws.specs.Turn.{in_turn, list_below}
use Rattle.block.specs.Record.{is_input}
use Rattle.block.specs.View.{gate_of}
use Rattle.block.specs.Kind.{kind_of}
use Rattle.block.specs.Block.{latest_pin, arrival_from, arrivals, inputs_below, switching_tick}
use Rattle.block.specs.Verdict.{verdict}
use Rattle.block.specs.Refusals as read
use Rattle.netlist.specs.Lines.{lines_of, uncommented, is_blank, without_blanks, content}
use Rattle.netlist.specs.Names.{is_letter_or_digit, lettered, is_name, are_names, same, known, all_known, position}
use Rattle.netlist.specs.Forms.{mark_of, parts_of, ended, closed, bracketed, declaring, declared, assigned, form_of, line_form, kind_named, pins_allowed, form_right, given_by}
use Rattle.bench.specs.Checks.{size_checks, row_in_range, rows_from, names_right, line_checks, lines_from}
use Rattle.bench.specs.Records.{pin_net, gate_record, record_of, records_from}
use Rattle.bench.specs.Bench.{bench_records, lent_checks, text_checks, bench_checks, bench_verdict}
use Rattle.bench.specs.Examples.{input_lines, BenchExamples}

pub bench_examples : BenchExamples
unfolding all_below max_below count_below in_turn list_below is_input kind_of latest_pin arrival_from arrivals inputs_below switching_tick gate_of
    verdict read.within read.zero_bytes read.starts_with_input read.file_checks read.kind_known read.input_in_place read.pin_count_right
    read.input_spare_zero read.unused_pins_zero read.gate_spare_zero read.pins_below read.gate_in_range read.input_in_range read.arrival_in_time
    read.input_checks read.gate_checks read.field_checks read.record_checks read.records_from read.read_checks lines_of uncommented is_blank
    without_blanks content is_letter_or_digit lettered is_name are_names same known all_known position mark_of parts_of ended closed bracketed declaring
    declared assigned form_of line_form kind_named pins_allowed form_right given_by size_checks row_in_range rows_from names_right line_checks
    lines_from input_lines pin_net gate_record record_of records_from bench_records lent_checks text_checks bench_checks bench_verdict
bench_examples = record {
  input_line = refl;
  output_line = refl;
  gate_line = refl;
  blanks_in_word = refl;
  blanks_in_name = refl;
  comment_after = refl;
  comment_alone = refl;
  nothing = (refl, refl);
  input_named = refl;
  no_form = (refl, refl, refl);
  last_line = refl;
  last_end = refl;
  kind_words_lem = (refl, refl, refl);
  buff = refl;
  refused_form = refl;
  refused_kind = refl;
  refused_pins = refl;
  accepted_pins = refl;
  refused_input = refl;
  refused_long_name = refl;
  accepted_long_name = refl;
  refused_unknown = refl;
  refused_twice = refl;
  refused_own = refl;
  refused_both = refl;
  accepted_output = refl;
  refused_buffer = (refl, refl);
  refused_list = (refl, refl);
  refused_row = refl;
  refused_call = refl;
  refused_empty = (refl, refl);
  refused_inputs = (refl, refl);
  refused_arrival = (refl, refl);
  turned_records = refl;
  buff_record = refl;
  low_byte_first = refl;
  c17_accepted = λ buffer long. rw long refl;
  c17_count = refl;
  c17_kinds = refl;
  c17_pin_counts = refl;
  c17_first_pins = refl;
  c17_second_pins = refl;
}
