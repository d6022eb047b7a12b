-- Search (document 01, "Search" and "Refusals in checking order"; request 3): its checks, its answer and its buffers.
use Rattle.std.specs.Prelude.{Result}
use Rattle.block.specs.Verdict.{Verdict}
use Rattle.block.specs.declared.verdict.Refusal.{Refusal}
use Rattle.std.specs.Prelude.{ℕ, List, [], ◌∷◌, ◌++◌, ◌≡◌, length}
use Rattle.block.specs.Block.{frame, input_count}
use Rattle.block.specs.Record.{File, net_count}
use Rattle.block.specs.Refusals.{read_checks}
use Rattle.block.specs.Verdict.{Check, verdict}
use Rattle.operation.specs.Arguments.{hops_check, table_check, ratio_check, budget_check, sheet_check, pattern_check, work_check, store_check}
use Rattle.operation.specs.Operation.{answer_after, buffer_after, WorkAfter}
use Rattle.operation.specs.SplitOrder.{order_check}
use Rattle.operation.specs.declared.Found.{Found}
use Rattle.sheet.specs.Sheet.{Sheet, sheet_words, quiet_tick}
use Rattle.cases.specs.Choice.{first_undecided}
use Rattle.cases.specs.Search.{SearchEnd, greatest_upper, search}
use Rattle.cases.specs.Store.{store_with, pattern_with}
use Rattle.bounds.specs.Bounds.{simulated_drop, envelope_drop, sheet_over}

-- Search takes file, hop limit, table, ratio, budget, the list of inputs in the order to be split (request 6), sheet, pattern, work buffer and case store, as they are lent.
pub record SearchArguments : Type 0 where
  pub file : File
  pub hops : ℕ
  pub table : List ℕ
  pub ratio : ℕ
  pub budget : ℕ
  pub order : List ℕ
  pub sheet : List ℕ
  pub pattern : List ℕ
  pub work : List ℕ
  pub store : List ℕ

-- The search of a block's frame, with its hop limit, table, ratio, budget and list.
unfoldable pub search_of : SearchArguments → SearchEnd
search_of given =
    let file = given.file in
    search (simulated_drop file given.table) (envelope_drop file given.hops given.table) (first_undecided given.order) given.ratio given.budget (frame file)

-- The checks of the arguments that Search has beside the file: hop limit, length of the table, ratio, budget and, with the count of inputs,
-- the list; then, with the count of nets and the budget, the lengths of sheet, pattern, work buffer and case store.
unfoldable pub argument_checks : ℕ → ℕ → ℕ → ℕ → ℕ → ℕ → List ℕ → ℕ → ℕ → ℕ → ℕ → List Check
argument_checks nets inputs hops table ratio budget order sheet pattern work store =
    hops_check hops
    ∷ table_check table
    ∷ ratio_check ratio
    ∷ budget_check budget
    ∷ order_check inputs order
    ∷ sheet_check sheet
    ∷ pattern_check pattern
    ∷ work_check nets work
    ∷ store_check budget store
    ∷ []

-- The verdict on all of Search's checks, in order.
unfoldable pub search_verdict : SearchArguments → Verdict
search_verdict given =
    verdict
    (read_checks given.file
    ++ argument_checks (net_count given.file) (input_count given.file) given.hops (length given.table) given.ratio given.budget given.order (length given.sheet)
    (length given.pattern) (length given.work) (length given.store))

-- The final sheet: the greatest, at each place, over the cases in the store at the end, decided ones simulated.
abbrev pub final_sheet : SearchArguments → Sheet
final_sheet given = sheet_over given.file given.hops (search_of given).state.cases

-- What an accepted search answers: outcome, U, L, splits (how many cases it split), cases (records in the store at the end), and, since
-- request 3, the quiet tick of its final sheet.
unfoldable pub found_by : SearchArguments → Found
found_by given =
    let end = search_of given in
    let state = end.state in
    record {
      outcome = end.outcome;
      upper = greatest_upper state.cases;
      lower = state.best.lower;
      splits = end.splits;
      cases = length state.cases;
      quiet = quiet_tick (final_sheet given);
    }

-- Search's answer: what the search found, or the refusal.
abbrev pub search_answer : SearchArguments → Result Found Refusal
search_answer given = answer_after (search_verdict given) (found_by given)

-- What Search promises: its answer, and each buffer as it leaves it.
pub record Searched (given : SearchArguments) (answer : Result Found Refusal) (sheet' pattern' work' store' : List ℕ) : Type 0 where
  pub answered : answer ≡ search_answer given
  pub sheet_written : sheet' ≡ buffer_after (search_verdict given) (sheet_words (final_sheet given)) given.sheet
  pub pattern_written : pattern' ≡ buffer_after (search_verdict given) (pattern_with (search_of given).state.best.pattern given.pattern) given.pattern
  pub store_written : store' ≡ buffer_after (search_verdict given) (store_with (search_of given).state.cases given.store) given.store
  pub kept : WorkAfter (search_verdict given) given.work work'
