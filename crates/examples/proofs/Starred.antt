-- Document 01's starred examples, by evaluation.
-- Assumes nothing.
use Rattle.block.specs.Verdict.{Accepted}
use Prim.Native.Nat.{ℕ, max}
use mathlib.Core.Bool.{false}
use mathlib.Core.List.{List, [], ◌∷◌}
use mathlib.Core.Path.{◌≡◌, refl, ap, ◌∙◌}
use native.Mathlib.Omega.{arith}
use lib.ListN.{length, get_or}
use Rattle.laws.specs.Below.{all_below, any_below, max_below, argmax, last_below, sum_below, count_below}
use Rattle.laws.specs.Turn.{in_turn, list_below}
use Rattle.excitation.specs.Excitation.{l, h, hl, lh, excitation_of}
use Rattle.excitation.specs.declared.Excitation.{Excitation}
use Rattle.excitation.specs.UncertaintySet.{member, decode, join_sets, each, size, single}
use Rattle.excitation.proofs.Examples.{set_examples}
use Rattle.block.specs.Block.{switching_tick, inputs_below, frame, feeds, fed_from, cone_size}
use Rattle.block.specs.Examples.{block_s, block_f}
use Rattle.block.specs.Gate.{gate_value}
use Rattle.block.specs.Kind.{kind_of}
use Rattle.block.specs.Record.{File, is_input}
use Rattle.block.specs.Refusals.{within, read_of}
use Rattle.block.specs.Verdict.{verdict}
use Rattle.block.specs.View.{gate_of}
use Rattle.block.proofs.Examples.{block_examples}
use Rattle.sheet.specs.Sheet.{Sheet, drop_at, drop_of, flows_at, quiet_tick}
use Rattle.sheet.proofs.QuietTick.{quiet_same}
use Rattle.runs.specs.Runs.{extend, runs_from, inside, ticks_inside}
use Rattle.fill.specs.Fill.{holding, fill_ticks, sets_holding, filled}
use Rattle.fill.specs.Gaps.{gaps_after, gaps, shorter, shortest, close, close_first, close_shortest, close_while, merged}
use Rattle.fill.proofs.Examples.{fill_examples}
use Rattle.waveform.specs.Waveform.{earlier, input_waveform, gate_from, pin_waveform, gate_at, gate_waveform, net_waveform, waveforms}
use Rattle.current.specs.Current.{edge_pulse, allowed_pulse, gate_current, transitions_from, draws_at, part, contact_current, transitions_of, sheet_of}
use Rattle.current.specs.Examples.{table_f}
use Rattle.current.specs.Pulse.{level_after, pulse, pulse_at}
use Rattle.current.specs.Rounding.{even_of, nearest}
use Rattle.current.proofs.Examples.{current_examples}
use Rattle.operation.specs.SplitOrder.{times_named, names_each}
use Rattle.operation.proofs.Operations.{by_arguments}
use Rattle.operation.specs.declared.Outcome.{Outcome}
use Rattle.operation.specs.declared.Outcome.TheVariants.{Exact, Within, Spent}
use Rattle.cases.specs.Case.{undecided, decided, first_allowed, probe, evaluation_of, members_below, children_below}
use Rattle.cases.proofs.Cases.{evaluation_undecided}
use Rattle.cases.specs.Choice.{first_undecided}
use Rattle.cases.specs.SplitOrder.{put_in, in_order, wider, cone_order}
use Rattle.evaluation.specs.Evaluation.{simulated_sheet, envelope_sheet}
use Rattle.bounds.specs.Bounds.{sheet_over}
use Rattle.cases.specs.Search.{SearchEnd, upper_at, sets_at, greatest_upper, next_split, placed, outcome_of, better, best_of, first_best, made_under, first_state, next_children, split, outcome_at, search_from, search, cases_sheet}
use Rattle.laws.specs.Ascii.{ascii}
use Rattle.examples.specs.Starred.{table_s, searching, finding, SearchExamples, Starred}
use Rattle.search.specs.Search.{SearchArguments, search_of, found_by, argument_checks, search_verdict}
use Rattle.program.specs.Lines.{digits, decimal, line}
use Rattle.program.specs.Program.{arguments_with, program_arguments, excitation_word, search_text, program_text}
use Rattle.program.proofs.Searches.{program_checks}

-- How the searches of block F and block S end: with their frame as the one case, or, after a split, with a case for each excitation of their
-- first input.

abbrev frame_end : Outcome → File → ℕ → ℕ → List Excitation → SearchEnd
frame_end outcome file upper lower pattern = record {
  outcome = outcome;
  splits = 0;
  state = record { cases = record { sets = frame file; upper = upper } ∷ []; best = record { lower = lower; pattern = pattern } };
}

abbrev end_f : SearchEnd
end_f = record {
  outcome = Exact;
  splits = 1;
  state = record {
    cases = record { sets = single l ∷ decode 15 ∷ []; upper = 31 }
        ∷ record { sets = single h ∷ decode 15 ∷ []; upper = 0 }
        ∷ record { sets = single hl ∷ decode 15 ∷ []; upper = 31 }
        ∷ record { sets = single lh ∷ decode 15 ∷ []; upper = 66 }
        ∷ [];
    best = record { lower = 66; pattern = lh ∷ lh ∷ [] };
  };
}

abbrev end_s : SearchEnd
end_s = record {
  outcome = Exact;
  splits = 1;
  state = record {
    cases = record { sets = single l ∷ []; upper = 0 }
        ∷ record { sets = single h ∷ []; upper = 0 }
        ∷ record { sets = single hl ∷ []; upper = 10 }
        ∷ record { sets = single lh ∷ []; upper = 10 }
        ∷ [];
    best = record { lower = 10; pattern = lh ∷ [] };
  };
}

ends_unsplit_F : search_of (searching block_f table_f 1000 0) ≡ frame_end Spent block_f 67 66 (lh ∷ lh ∷ [])
unfolding all_below any_below max_below argmax sum_below count_below in_turn list_below excitation_of member decode join_sets each size is_input kind_of gate_value gate_of switching_tick inputs_below frame feeds fed_from cone_size put_in in_order wider cone_order first_undecided extend runs_from gaps_after gaps shorter shortest close close_first close_shortest close_while merged inside holding ticks_inside fill_ticks sets_holding filled earlier input_waveform gate_from pin_waveform gate_at gate_waveform net_waveform waveforms even_of nearest level_after pulse pulse_at edge_pulse allowed_pulse gate_current transitions_from draws_at part contact_current drop_at drop_of transitions_of sheet_of undecided decided first_allowed probe evaluation_of members_below children_below upper_at sets_at greatest_upper next_split placed outcome_of better best_of first_best made_under first_state next_children split outcome_at search_from search search_of
ends_unsplit_F = refl

ends_F : search_of (searching block_f table_f 1000 200) ≡ end_f
unfolding all_below any_below max_below argmax sum_below count_below in_turn list_below excitation_of member decode join_sets each size is_input kind_of gate_value gate_of switching_tick inputs_below frame feeds fed_from cone_size put_in in_order wider cone_order first_undecided extend runs_from gaps_after gaps shorter shortest close close_first close_shortest close_while merged inside holding ticks_inside fill_ticks sets_holding filled earlier input_waveform gate_from pin_waveform gate_at gate_waveform net_waveform waveforms even_of nearest level_after pulse pulse_at edge_pulse allowed_pulse gate_current transitions_from draws_at part contact_current drop_at drop_of transitions_of sheet_of undecided decided first_allowed probe evaluation_of members_below children_below upper_at sets_at greatest_upper next_split placed outcome_of better best_of first_best made_under first_state next_children split outcome_at search_from search search_of
ends_F = refl

ends_unsplit_S : (search_of (searching block_s table_s 1999 0) ≡ frame_end Spent block_s 20 10 (lh ∷ []))
    × (search_of (searching block_s table_s 2000 0) ≡ frame_end Within block_s 20 10 (lh ∷ []))
unfolding all_below any_below max_below argmax sum_below count_below in_turn list_below excitation_of member decode join_sets each size is_input kind_of gate_value gate_of switching_tick inputs_below frame feeds fed_from cone_size put_in in_order wider cone_order first_undecided extend runs_from gaps_after gaps shorter shortest close close_first close_shortest close_while merged inside holding ticks_inside fill_ticks sets_holding filled earlier input_waveform gate_from pin_waveform gate_at gate_waveform net_waveform waveforms even_of nearest level_after pulse pulse_at edge_pulse allowed_pulse gate_current transitions_from draws_at part contact_current drop_at drop_of transitions_of sheet_of undecided decided first_allowed probe evaluation_of members_below children_below upper_at sets_at greatest_upper next_split placed outcome_of better best_of first_best made_under first_state next_children split outcome_at search_from search search_of
ends_unsplit_S = (refl, refl)

ends_S : search_of (searching block_s table_s 1000 200) ≡ end_s
unfolding all_below any_below max_below argmax sum_below count_below in_turn list_below excitation_of member decode join_sets each size is_input kind_of gate_value gate_of switching_tick inputs_below frame feeds fed_from cone_size put_in in_order wider cone_order first_undecided extend runs_from gaps_after gaps shorter shortest close close_first close_shortest close_while merged inside holding ticks_inside fill_ticks sets_holding filled earlier input_waveform gate_from pin_waveform gate_at gate_waveform net_waveform waveforms even_of nearest level_after pulse pulse_at edge_pulse allowed_pulse gate_current transitions_from draws_at part contact_current drop_at drop_of transitions_of sheet_of undecided decided first_allowed probe evaluation_of members_below children_below upper_at sets_at greatest_upper next_split placed outcome_of better best_of first_best made_under first_state next_children split outcome_at search_from search search_of
ends_S = refl

-- The quiet ticks of their final sheets. Each sheet stands once, so that it is computed once.

-- The greatest, at each place, of some sheets.
abbrev greatest_of : List Sheet → Sheet
greatest_of sheets c t = max_below (length sheets) (λ k. get_or sheets k (λ _ _. 0) c t)

abbrev envelopes_f : List Sheet
envelopes_f =
    envelope_sheet 10 block_f (single l ∷ decode 15 ∷ [])
    ∷ envelope_sheet 10 block_f (single h ∷ decode 15 ∷ [])
    ∷ envelope_sheet 10 block_f (single hl ∷ decode 15 ∷ [])
    ∷ envelope_sheet 10 block_f (single lh ∷ decode 15 ∷ [])
    ∷ []

abbrev simulated_s : List Sheet
simulated_s =
    simulated_sheet block_s (l ∷ []) ∷ simulated_sheet block_s (h ∷ []) ∷ simulated_sheet block_s (hl ∷ []) ∷ simulated_sheet block_s (lh ∷ []) ∷ []

quiet_F : quiet_tick (greatest_of envelopes_f) ≡ 4
unfolding any_below max_below last_below sum_below count_below in_turn list_below excitation_of member decode join_sets each size is_input kind_of gate_value gate_of switching_tick inputs_below frame extend runs_from gaps_after gaps shorter shortest close close_first close_shortest close_while merged inside holding ticks_inside fill_ticks sets_holding filled earlier input_waveform gate_from pin_waveform gate_at gate_waveform net_waveform waveforms even_of nearest level_after pulse pulse_at edge_pulse allowed_pulse gate_current transitions_from draws_at part contact_current flows_at quiet_tick transitions_of sheet_of
quiet_F = refl

quiet_S : (quiet_tick (envelope_sheet 10 block_s (frame block_s)) ≡ 1) × (quiet_tick (greatest_of simulated_s) ≡ 1)
unfolding any_below max_below last_below sum_below count_below in_turn list_below excitation_of member decode join_sets each size is_input kind_of gate_value gate_of switching_tick inputs_below frame extend runs_from gaps_after gaps shorter shortest close close_first close_shortest close_while merged inside holding ticks_inside fill_ticks sets_holding filled earlier input_waveform gate_from pin_waveform gate_at gate_waveform net_waveform waveforms even_of nearest level_after pulse pulse_at edge_pulse allowed_pulse gate_current transitions_from draws_at part contact_current flows_at quiet_tick transitions_of sheet_of
quiet_S = (refl, refl)

-- With the frame as the one case the sheet is its envelope.
frame_quiet : (file : File) (hops upper : ℕ) → decided (frame file) ≡ false
    → quiet_tick (sheet_over file hops (record { sets = frame file; upper = upper } ∷ [])) ≡ quiet_tick (envelope_sheet hops file (frame file))
unfolding cases_sheet max_below sets_at
frame_quiet file hops upper undecided_inputs =
    let evaluated : Sheet = evaluation_of (simulated_sheet file) (envelope_sheet hops file) (frame file) in
    let is : evaluated ≡ envelope_sheet hops file (frame file) =
    evaluation_undecided (simulated_sheet file) (envelope_sheet hops file) (frame file) undecided_inputs in
    quiet_same (sheet_over file hops (record { sets = frame file; upper = upper } ∷ [])) (envelope_sheet hops file (frame file))
    (λ c t _ _. let one : max 0 (evaluated c t) ≡ evaluated c t = omega arith in one ∙ ap (λ (s : Sheet). s c t) is)

-- Split, the sheet is the greatest of the four envelopes of block F's cases, and of the four simulations of block S's.

split_quiet_F : quiet_tick (sheet_over block_f 10 end_f.state.cases) ≡ quiet_tick (greatest_of envelopes_f)
unfolding cases_sheet max_below all_below sets_at evaluation_of decided undecided size member probe first_allowed decode
split_quiet_F = quiet_same _ _ (λ c t _ _. refl)

split_quiet_S : quiet_tick (sheet_over block_s 10 end_s.state.cases) ≡ quiet_tick (greatest_of simulated_s)
unfolding cases_sheet max_below all_below sets_at evaluation_of decided undecided size member probe first_allowed
split_quiet_S = quiet_same _ _ (λ c t _ _. refl)

undecided_frames : (decided (frame block_f) ≡ false) × (decided (frame block_s) ≡ false)
unfolding all_below sum_below count_below in_turn list_below excitation_of member decode join_sets each size is_input kind_of gate_of inputs_below frame undecided decided
undecided_frames = (refl, refl)

-- What a search finds, by how it ends and the quiet tick of its sheet.
found_at : (given : SearchArguments) (end : SearchEnd) (quiet : ℕ) → search_of given ≡ end
    → quiet_tick (sheet_over given.file given.hops end.state.cases) ≡ quiet
    → found_by given
    ≡ finding end.outcome (greatest_upper end.state.cases) end.state.best.lower end.splits (length end.state.cases) quiet
unfolding found_by
found_at given end quiet ends last =
    let quiet_is = ap (λ (e : SearchEnd). quiet_tick (sheet_over given.file given.hops e.state.cases)) ends ∙ last in
    λ i. record {
      outcome = (ends i).outcome;
      upper = greatest_upper (ends i).state.cases;
      lower = (ends i).state.best.lower;
      splits = (ends i).splits;
      cases = length (ends i).state.cases;
      quiet = quiet_is i;
    }

unsplit_F : found_by (searching block_f table_f 1000 0) ≡ finding Spent 67 66 0 1 4
unfolding max_below upper_at greatest_upper
unsplit_F = found_at _ _ 4 ends_unsplit_F (frame_quiet block_f 10 67 undecided_frames.0 ∙ current_examples.envelope_quiet)

block_F : (found_by (searching block_f table_f 1000 200) ≡ finding Exact 66 66 1 4 4)
    × ((search_of (searching block_f table_f 1000 200)).state.best.pattern ≡ lh ∷ lh ∷ [])
unfolding max_below upper_at greatest_upper
block_F = (found_at _ _ 4 ends_F (split_quiet_F ∙ quiet_F), ap (λ e. e.state.best.pattern) ends_F)

unsplit_S : (found_by (searching block_s table_s 1999 0) ≡ finding Spent 20 10 0 1 1)
    × (found_by (searching block_s table_s 2000 0) ≡ finding Within 20 10 0 1 1)
unfolding max_below upper_at greatest_upper
unsplit_S =
    let quiet = frame_quiet block_s 10 20 undecided_frames.1 ∙ quiet_S.0 in
    (found_at _ _ 1 ends_unsplit_S.0 quiet, found_at _ _ 1 ends_unsplit_S.1 quiet)

block_S : (found_by (searching block_s table_s 1000 200) ≡ finding Exact 10 10 1 4 1)
    × ((search_of (searching block_s table_s 1000 200)).state.best.pattern ≡ lh ∷ [])
unfolding max_below upper_at greatest_upper
block_S = (found_at _ _ 1 ends_S (split_quiet_S ∙ quiet_S.1), ap (λ e. e.state.best.pattern) ends_S)

-- The program on block S: it passes all checks, and what is found is printed.

arguments_pass : Accepted ≡ verdict (program_checks block_s 3 1)
unfolding verdict argument_checks within arguments_with names_each times_named all_below inputs_below is_input kind_of put_in in_order wider cone_order count_below cone_size fed_from feeds any_below in_turn
arguments_pass = refl

passes_S : search_verdict (program_arguments block_s) ≡ Accepted
unfolding search_verdict arguments_with
passes_S = by_arguments block_s (program_checks block_s) (λ v. v ≡ Accepted) {read = read_of block_s} refl block_examples.read_S arguments_pass refl refl

found_S : found_by (program_arguments block_s) ≡ finding Exact 10 10 1 4 1
unfolding arguments_with search_of found_by
found_S = block_S.0

probe_S : (search_of (program_arguments block_s)).state.best.pattern ≡ lh ∷ []
unfolding arguments_with search_of
probe_S = block_S.1

text_S : program_text block_s ≡ ascii "exact 10 10 1 4\nlh\n"
unfolding program_text search_text line decimal digits excitation_word
text_S = rw (passes_S, found_S, probe_S) refl

search_examples : SearchExamples
search_examples = record {
  spent_F = unsplit_F;
  exact_F = block_F.0;
  pattern_F = block_F.1;
  spent_S = unsplit_S.0;
  within_S = unsplit_S.1;
  exact_S = block_S.0;
  pattern_S = block_S.1;
  program_S = text_S;
}

pub starred : Starred
starred = record { sets = set_examples; runs = fill_examples; blocks = block_examples; currents = current_examples; search = search_examples }
