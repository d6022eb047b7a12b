-- What Search answers: the file is refused, another argument is refused, or the call is accepted and the search runs to its end.
-- Assumes nothing.
use Rattle.std.specs.Prelude.{Result, Ok, Err}
use Rattle.block.specs.Verdict.{Verdict, Accepted}
use Rattle.block.specs.declared.Counts.{Counts}
use Prim.Native.Nat.{ℕ, ◌+◌}
use mathlib.Core.List.{List, ◌++◌}
use mathlib.Core.Path.{◌≡◌, refl, ap, ◌∙◌}
use native.Mathlib.Omega.{arith}
use lib.ListN.{length}
use Rattle.excitation.specs.Excitation.{pattern_of}
use Rattle.block.specs.Block.{input_count}
use Rattle.block.specs.Record.{net_count}
use Rattle.block.specs.Refusals.{read_checks, read_of}
use Rattle.block.specs.Verdict.{Check, verdict}
use Rattle.block.specs.declared.verdict.Refusal.{Refusal}
use Rattle.operation.specs.Operation.{answer_after, buffer_after, WorkAfter}
use Rattle.operation.specs.declared.Found.{Found}
use Rattle.operation.proofs.Operations.{by_file, by_arguments}
use Rattle.sheet.specs.Sheet.{sheet_words, sheet_in, quiet_tick}
use Rattle.sheet.proofs.Sheets.{quiet_of_words}
use Rattle.evaluation.specs.declared.Setting.{Setting}
use Rattle.cases.specs.Choice.{first_undecided}
use Rattle.cases.specs.Records.{cases_in}
use Rattle.cases.specs.Search.{greatest_upper, search_from, search}
use Rattle.cases.specs.Store.{store_with, pattern_with}
use Rattle.cases.proofs.Bytes.{store_is, pattern_is}
use Rattle.cases.proofs.Records.{cases_long}
use Rattle.bounds.specs.Bounds.{pattern_drop, case_drop, sheet_over}
use Rattle.search.specs.Search.{SearchArguments, search_of, argument_checks, search_verdict, final_sheet, found_by, Searched}
use Rattle.search.specs.declared.run.RunEnd.{RunEnd}
use Rattle.search.specs.Steps.{best_in, state_in, PastKept, FirstMade, Ran, arguments_of, BlockSearched}
use Rattle.search.proofs.Running.{past_kept}

-- A run from the first state on ends where the search ends, and leaves its answer and its buffers.
module _ (setting : Setting) (ratio budget : ℕ) (order sheet_lent pattern_lent work_lent store_lent : List ℕ) where
  abbrev given : SearchArguments
  given = arguments_of setting ratio budget order sheet_lent pattern_lent work_lent store_lent

  module _ {threshold : ℕ} {store' pattern' store'' pattern'' : List ℕ} {ended : RunEnd}
      (first : FirstMade setting store_lent pattern_lent threshold store' pattern')
      (ran : Ran setting order ratio budget (state_in setting.inputs 1 threshold store' pattern') store' pattern' ended store'' pattern'') where
    end_is : ran.end ≡ search_of given
    unfolding search_of search
    end_is =
        ran.is
        ∙ ap (search_from (pattern_drop setting) (case_drop setting) (first_undecided given.order) given.ratio given.budget 0) first.state

    cases_held : cases_in setting.inputs store'' ended.cases ≡ ran.end.state.cases
    unfolding state_in
    cases_held = ap (λ s. s.cases) ran.state

    lower_held : ended.lower ≡ ran.end.state.best.lower
    unfolding state_in best_in
    lower_held =
        let e : ended.lower ≡ (state_in setting.inputs ended.cases (ended.lower + 1) store'' pattern'').best.lower = omega arith in
        e ∙ ap (λ s. s.best.lower) ran.state

    pattern_held : pattern_of setting.inputs pattern'' ≡ ran.end.state.best.pattern
    unfolding state_in best_in
    pattern_held = ap (λ s. s.best.pattern) ran.state

    count_held : ended.cases ≡ length ran.end.state.cases
    count_held = rw (← cases_held, cases_long) refl

    past : PastKept setting.inputs ended.cases given.store given.pattern store'' pattern''
    past = past_kept ran.running.some first.past ran.past

    module _ {sheet : List ℕ} (drawn : sheet ≡ sheet_words (sheet_over given.file setting.hops (cases_in setting.inputs store'' ended.cases))) where
      final_drawn : sheet ≡ sheet_words (final_sheet given)
      final_drawn =
          drawn
          ∙ ap (λ cases. sheet_words (sheet_over given.file given.hops cases)) (cases_held ∙ ap (λ f. f.state.cases) end_is)

      module _ {quiet : ℕ} (last : quiet ≡ quiet_tick (sheet_in sheet)) where
        abbrev found : Found
        found = record { outcome = ended.outcome; upper = ended.upper; lower = ended.lower; splits = ended.splits; cases = ended.cases; quiet = quiet }

        answer_is : found ≡ found_by given
        unfolding found_by
        answer_is =
            let outcome_is = ran.outcome ∙ ap (λ f. f.outcome) end_is in
            let upper_is = ran.upper ∙ ap (λ f. greatest_upper f.state.cases) end_is in
            let lower_is = lower_held ∙ ap (λ f. f.state.best.lower) end_is in
            let splits_is = ran.splits ∙ ap (λ f. f.splits) end_is in
            let cases_are = count_held ∙ ap (λ f. length f.state.cases) end_is in
            let quiet_is = last ∙ quiet_of_words (final_sheet given) final_drawn in
            λ i. record { outcome = outcome_is i; upper = upper_is i; lower = lower_is i; splits = splits_is i; cases = cases_are i; quiet = quiet_is i }

        pub block_searched : BlockSearched given found sheet pattern'' store''
        block_searched = record {
          answered = answer_is;
          sheet_written = final_drawn;
          pattern_written = pattern_is setting.inputs pattern'' given.pattern (omega (arith, setting.accepted.few_inputs, ran.running.pattern_long)) past.pattern_long
              ran.running.pattern_low past.pattern_past
              ∙ ap (λ p. pattern_with p given.pattern) (pattern_held ∙ ap (λ f. f.state.best.pattern) end_is);
          store_written = store_is setting.inputs setting.accepted.few_inputs store'' ended.cases ran.running.cases given.store past.store_long past.store_past
              ∙ ap (λ cases. store_with cases given.store) (cases_held ∙ ap (λ f. f.state.cases) end_is);
        }

module _ (given : SearchArguments) {read : Result Counts Refusal} (is : read ≡ read_of given.file) where
  abbrev checks : ℕ → ℕ → List Check
  checks nets inputs =
      argument_checks nets inputs given.hops (length given.table) given.ratio given.budget given.order (length given.sheet) (length given.pattern)
      (length given.work) (length given.store)

  -- What Search promises, by the verdict.
  abbrev Promised : Result Found Refusal → List ℕ → List ℕ → List ℕ → List ℕ → Verdict → Type 0
  Promised r sheet' pattern' work' store' v =
      (r ≡ answer_after v (found_by given))
      × (sheet' ≡ buffer_after v (sheet_words (final_sheet given)) given.sheet)
      × (pattern' ≡ buffer_after v (pattern_with (search_of given).state.best.pattern given.pattern) given.pattern)
      × (store' ≡ buffer_after v (store_with (search_of given).state.cases given.store) given.store)
      × WorkAfter v given.work work'

  searched : (r : Result Found Refusal) (sheet' pattern' work' store' : List ℕ)
      → Promised r sheet' pattern' work' store' (verdict (read_checks given.file ++ checks (net_count given.file) (input_count given.file)))
      → Searched given r sheet' pattern' work' store'
  unfolding search_verdict
  searched r sheet' pattern' work' store' p = record { answered = p.0; sheet_written = p.1; pattern_written = p.2; store_written = p.3; kept = p.4 }

  pub file_refused : (r : Refusal) {a : Result Found Refusal} → read ≡ Err r → a ≡ Err r
      → Searched given a given.sheet given.pattern given.work given.store
  file_refused r told answered = searched _ _ _ _ _ (by_file given.file checks (Promised _ _ _ _ _) is told (answered, refl, refl, refl, refl))

  module _ (found : Counts) (told : read ≡ Ok found) {v : Verdict} (checked : v ≡ verdict (checks found.nets found.inputs)) where
    pub argument_refused : (r : Refusal) {a : Result Found Refusal} → v ≡ Err r → a ≡ Err r
        → Searched given a given.sheet given.pattern given.work given.store
    argument_refused r said answered = searched _ _ _ _ _ (by_arguments given.file checks (Promised _ _ _ _ _) is told checked said (answered, refl, refl, refl, refl))

    pub call_accepted : (answered : Found) (sheet' pattern' work' store' : List ℕ) → v ≡ Accepted
        → BlockSearched given answered sheet' pattern' store' → Searched given (Ok answered) sheet' pattern' work' store'
    call_accepted answered sheet' pattern' work' store' said b =
        searched _ _ _ _ _
        (by_arguments given.file checks (Promised _ _ _ _ _) is told checked said (ap Ok b.answered, b.sheet_written, b.pattern_written, b.store_written, tt))
