-- The agreement of the two houses, from the promises of Search and Simulate, the laws of the search and the soundness law.
-- Assumes nothing.
use Rattle.block.specs.declared.verdict.Reason.TheVariants.{WrongTable, WrongBuffer}
use Rattle.std.specs.Prelude.{Result, Ok, Err}
use Rattle.block.specs.Verdict.{Verdict, Accepted}
use Rattle.block.specs.declared.verdict.Refusal.{Refusal}
use Prim.Native.Nat.{ℕ, ◌*◌, ◌≤◌}
use mathlib.Core.List.{List}
use mathlib.Core.Path.{◌≡◌, refl, ap, sym, subst, ◌∙◌}
use native.Mathlib.Omega.{arith}
use lib.ListN.{length, get_or}
use borrow.Author.Tests.{eq-eqb, le-leb}
use Rattle.excitation.specs.Excitation.{pattern_of}
use Rattle.block.specs.Accepted.{AcceptedFile}
use Rattle.block.specs.Block.{frame, input_count, Choice}
use Rattle.block.specs.Record.{File, net_count}
use Rattle.block.specs.Refusals.{read_checks, read_of}
use Rattle.block.specs.Verdict.{verdict}
use Rattle.block.proofs.Accepted.{accepted}
use Rattle.block.proofs.Frames.{frame_long}
use Rattle.block.proofs.Verdicts.{all_passed, stays_accepted, both_accepted, accepted_first}
use Rattle.operation.specs.Operation.{answer_after, buffer_after}
use Rattle.operation.specs.Pattern.{byte_checks}
use Rattle.operation.specs.declared.Currents.{Currents}
use Rattle.operation.specs.declared.Found.{Found}
use Rattle.operation.proofs.Patterns.{pattern_chosen}
use Rattle.sheet.specs.Sheet.{sheet_words, drop_of, quiet_tick}
use Rattle.sheet.proofs.QuietTick.{quiet_no_later}
use Rattle.sheet.proofs.Sheets.{words_at_most}
use Rattle.evaluation.specs.Evaluation.{simulated_sheet, envelope_sheet, currents_of}
use Rattle.envelope.proofs.Soundness.{soundness}
use Rattle.cases.specs.Choice.{first_undecided}
use Rattle.cases.specs.Promise.{Right}
use Rattle.cases.specs.Search.{SearchEnd, outcome_of}
use Rattle.cases.specs.Store.{pattern_with}
use Rattle.cases.proofs.SplitOrder.{list_chooses}
use Rattle.cases.proofs.Outcomes.{is_exact, is_within, is_spent, Says, says}
use Rattle.cases.proofs.Right.{search_right, sheet_above}
use Rattle.simulator.specs.Simulate.{SimulateArguments, size_checks, simulate_verdict, pattern_sheet, given_sheet, Simulated}
use Rattle.bounds.specs.Bounds.{simulated_drop, envelope_drop}
use Rattle.search.specs.Agreement.{sharing, Agrees, Agreement}
use Rattle.search.specs.Search.{SearchArguments, search_of, search_verdict, final_sheet, found_by, Searched}
use Rattle.search.proofs.Accepted.{ArgumentsRight, arguments_right}
use Rattle.search.proofs.Frame.{frame_probe, pattern_room, pattern_back, pattern_passes}

-- An operation that answers with values was accepted.

answer_accepted : {T : Type 0} (v : Verdict) (are told : T) → Ok told ≡ answer_after v are → (v ≡ Accepted) × (told ≡ are)
answer_accepted (Ok _) are told e = (refl, cc)
answer_accepted (Err r) are told e = absurd (let z : ◌≡◌ {A = ℕ} 0 1 = cc in omega arith)

-- What an accepted simulation is.
record AcceptedSimulation (given : SimulateArguments) (told : Currents) (simulated : List ℕ) : Type 0 where
  choice : Choice (pattern_of (input_count given.file) given.pattern) (frame given.file)
  currents_are : told ≡ currents_of given.table (given_sheet given)
  sheet_is : simulated ≡ sheet_words (given_sheet given)

simulation_accepted : {given : SimulateArguments} {told : Currents} {simulated work' : List ℕ} → Simulated given (Ok told) simulated work'
    → AcceptedSimulation given told simulated
unfolding simulate_verdict
simulation_accepted {given} {told} s =
    let v = answer_accepted (simulate_verdict given) (currents_of given.table (given_sheet given)) told s.answered in
    let rest = (both_accepted (read_checks given.file) _ v.0).1 in
    let bytes_accepted = (both_accepted
    (size_checks (net_count given.file) (length given.table) (length given.sheet) (length given.pattern) (length given.work)) _ rest).1 in
    record {
      choice = pattern_chosen given.file given.pattern bytes_accepted;
      currents_are = v.1;
      sheet_is = s.written ∙ ap (λ v. buffer_after v (sheet_words (given_sheet given)) given.sheet) v.0;
    }

-- What an accepted search is.
record AcceptedSearch (given : SearchArguments) (found : Found) (sheet pattern : List ℕ) : Type 0 where
  file_accepted : AcceptedFile given.file (net_count given.file) (input_count given.file)
  read_passed : verdict (read_checks given.file) ≡ Accepted
  arguments : ArgumentsRight (net_count given.file) (input_count given.file) given.hops (length given.table) given.ratio given.budget given.order (length given.sheet)
      (length given.pattern) (length given.work) (length given.store)
  found_is : found ≡ found_by given
  sheet_is : sheet ≡ sheet_words (final_sheet given)
  pattern_is : pattern ≡ pattern_with (search_of given).state.best.pattern given.pattern

read_accepted : (file : File) → verdict (read_checks file) ≡ Accepted → AcceptedFile file (net_count file) (input_count file)
unfolding read_of
read_accepted file e = accepted file (net_count file) (input_count file) (rw e refl)

search_accepted : (given : SearchArguments) (found : Found) (sheet' pattern' work' store' : List ℕ)
    → Searched given (Ok found) sheet' pattern' work' store' → AcceptedSearch given found sheet' pattern'
unfolding search_verdict
search_accepted given found sheet' pattern' work' store' s =
    let is = answer_accepted (search_verdict given) (found_by given) found s.answered in
    let both = both_accepted (read_checks given.file) _ is.0 in
    record {
      file_accepted = read_accepted given.file both.0;
      read_passed = both.0;
      arguments = arguments_right _ _ _ _ _ _ _ _ _ _ _ both.1;
      found_is = is.1;
      sheet_is = s.sheet_written ∙ ap (λ v. buffer_after v (sheet_words (final_sheet given)) given.sheet) is.0;
      pattern_is = s.pattern_written ∙ ap (λ v. buffer_after v (pattern_with (search_of given).state.best.pattern given.pattern) given.pattern) is.0;
    }

module _ (given : SearchArguments) (found : Found) (sheet pattern : List ℕ) (ended : AcceptedSearch given found sheet pattern) where
  abbrev file : File
  file = given.file

  abbrev end : SearchEnd
  end = search_of given

  right : Right (simulated_drop file given.table) given.ratio given.budget (frame file) end
  unfolding search_of
  right =
      search_right (simulated_drop file given.table) (envelope_drop file given.hops given.table) (first_undecided given.order) given.ratio given.budget (frame file)
      (λ pattern case choice. (soundness file).drops_no_more given.hops choice given.table)
      (list_chooses given.order (rw (frame_long file) ended.arguments.order_right))
      (frame_probe file (net_count file) (input_count file) ended.file_accepted)

  upper_is : found.upper ≡ (found_by given).upper
  upper_is = ap (λ (f : Found). f.upper) ended.found_is

  lower_is : found.lower ≡ (found_by given).lower
  lower_is = ap (λ (f : Found). f.lower) ended.found_is

  outcome_is : found.outcome ≡ (found_by given).outcome
  outcome_is = ap (λ (f : Found). f.outcome) ended.found_is

  splits_is : found.splits ≡ (found_by given).splits
  splits_is = ap (λ (f : Found). f.splits) ended.found_is

  -- The outcome is what U and L say.
  said_is : found.outcome ≡ outcome_of given.ratio found.upper found.lower
  unfolding found_by
  said_is = outcome_is ∙ right.outcome ∙ rw (upper_is, lower_is) refl

  says_of : Says given.ratio found.upper found.lower found.outcome
  says_of = subst (Says given.ratio found.upper found.lower) (sym said_is) (says given.ratio found.upper found.lower)

  module _ {room bytes work : List ℕ} {told : Currents} {simulated work' : List ℕ}
      (run : Simulated (sharing given room bytes work) (Ok told) simulated work') where
    simulation : AcceptedSimulation (sharing given room bytes work) told simulated
    simulation = simulation_accepted run

    -- The search's sheet is nowhere below that of the pattern.
    final_above : (c t : ℕ) → pattern_sheet file bytes c t ≤ final_sheet given c t
    final_above =
        let cover = right.covered simulation.choice in
        sheet_above (simulated_sheet file) (envelope_sheet given.hops file) (λ p case choice c t. (soundness file).draws_no_more given.hops choice c t) _ end.state.cases cover

    sheet_above_run : (i : ℕ) → get_or simulated i 0 ≤ get_or sheet i 0
    sheet_above_run i = rw (simulation.sheet_is, ended.sheet_is) (words_at_most (pattern_sheet file bytes) (final_sheet given) final_above i)

    drop_below_run : told.drop ≤ found.upper
    unfolding found_by
    drop_below_run = rw (simulation.currents_are, upper_is) (right.above simulation.choice)

    quiet_before_run : told.quiet ≤ found.quiet
    unfolding found_by
    quiet_before_run =
        rw (simulation.currents_are, ap (λ (f : Found). f.quiet) ended.found_is)
        (quiet_no_later (pattern_sheet file bytes) (final_sheet given) (λ c t h l. final_above c t))

  -- The pattern handed over is the search's, a choice of the frame; it passes Simulate's checks, and drops L.

  handed_is : pattern_of (input_count file) pattern ≡ end.state.best.pattern
  handed_is = ap (pattern_of (input_count file)) ended.pattern_is ∙ pattern_back file end.state.best.pattern given.pattern right.chosen

  pattern_long : length pattern ≡ 64
  pattern_long =
      ap length ended.pattern_is
      ∙ pattern_room file end.state.best.pattern given.pattern right.chosen ended.file_accepted.few_inputs ended.arguments.pattern_long

  bytes_passed : verdict (byte_checks file pattern (input_count file)) ≡ Accepted
  bytes_passed = rw ended.pattern_is (pattern_passes file end.state.best.pattern given.pattern right.chosen)

  handed_passes : (room work : List ℕ) → length room ≡ 8192 → 160 * net_count file ≤ length work
      → simulate_verdict (sharing given room pattern work) ≡ Accepted
  unfolding simulate_verdict size_checks
  handed_passes room work sheet_long work_long =
      accepted_first (read_checks file) _ ended.read_passed
      ∙ accepted_first (size_checks (net_count file) (length given.table) (length room) (length pattern) (length work)) _
      (stays_accepted WrongTable 0 _ ended.arguments.table_right_lem
      (stays_accepted WrongBuffer 1 _ (eq-eqb (length room) 8192 sheet_long)
      (stays_accepted WrongBuffer 2 _ (eq-eqb (length pattern) 64 pattern_long)
      (stays_accepted WrongBuffer 3 _ (le-leb (160 * net_count file) (length work) work_long) (sym all_passed)))))
      ∙ bytes_passed

  handed_drop : drop_of given.table (pattern_sheet file pattern) ≡ found.lower
  unfolding found_by
  handed_drop =
      ap (λ p. simulated_drop file given.table p) handed_is ∙ right.reached ∙ sym lower_is

  handed_over : (room work : List ℕ) (a : Result Currents Refusal) (simulated work' : List ℕ) → length room ≡ 8192 → 160 * net_count file ≤ length work
      → Simulated (sharing given room pattern work) a simulated work'
      → a ≡ Ok (record { drop = found.lower; quiet = quiet_tick (pattern_sheet file pattern) })
  handed_over room work a simulated work' sheet_long work_long s =
      s.answered
      ∙ ap (λ v. answer_after v (currents_of given.table (pattern_sheet file pattern))) (handed_passes room work sheet_long work_long)
      ∙ ap (λ d. Ok (record { drop = d; quiet = quiet_tick (pattern_sheet file pattern) })) handed_drop

  agrees : Agrees given found sheet pattern
  unfolding found_by
  agrees = record {
    draws_no_more = λ room bytes work told simulated work' s. sheet_above_run s;
    drops_no_more = λ room bytes work told simulated work' s. drop_below_run s;
    quiet_no_later = λ room bytes work told simulated work' s. quiet_before_run s;
    pattern_chosen = subst (λ p. Choice p (frame file)) (sym handed_is) right.chosen;
    pattern_drops = handed_over;
    exact_means = λ e. subst (Says given.ratio found.upper found.lower) e says_of;
    exact_when = λ e. said_is ∙ is_exact given.ratio found.upper found.lower e;
    exact_drops = λ e room bytes work told simulated work' s.
        (let same : found.upper ≡ found.lower = subst (Says given.ratio found.upper found.lower) e says_of in
        subst (λ most. told.drop ≤ most) same (drop_below_run s));
    within_means = λ e. subst (Says given.ratio found.upper found.lower) e says_of;
    within_when = λ n h. said_is ∙ is_within given.ratio found.upper found.lower n h;
    spent_means = λ e. subst (Says given.ratio found.upper found.lower) e says_of;
    spent_when = λ n h. said_is ∙ is_spent given.ratio found.upper found.lower n h;
    spent_splits = λ e. splits_is ∙ right.spent (sym outcome_is ∙ e);
    splits_within = rw splits_is right.few;
    budget_enough = λ enough e. (let most = right.enough (sym outcome_is ∙ e) in omega arith);
  }

-- The pattern buffer of an accepted search holds the search's pattern.
pub pattern_handed : (given : SearchArguments) (found : Found) (sheet' pattern' work' store' : List ℕ)
    → Searched given (Ok found) sheet' pattern' work' store' → pattern_of (input_count given.file) pattern' ≡ (search_of given).state.best.pattern
pattern_handed given found sheet' pattern' work' store' s =
    handed_is given found sheet' pattern' (search_accepted given found sheet' pattern' work' store' s)

-- Every accepted search agrees with every accepted simulation of the same file and table.
pub agreement : Agreement
agreement given found sheet' pattern' work' store' s = agrees given found sheet' pattern' (search_accepted given found sheet' pattern' work' store' s)
