-- What the functions of the search ask and promise (for document 01, "Search"), step by step: a case made, a case split, the whole run,
-- the sheet.
use Rattle.std.specs.Prelude.{ℕ, ◌+◌, ◌*◌, ◌-◌, ◌≤◌, ◌<◌, max, true, false, List, ◌≡◌, length, get_or}
use Rattle.excitation.specs.Excitation.{pattern_of}
use Rattle.excitation.specs.UncertaintySet.{member, decode}
use Rattle.excitation.specs.declared.Excitation.{Excitation}
use Rattle.block.specs.Block.{frame}
use Rattle.block.specs.Limits.{drop_limit}
use Rattle.block.specs.Record.{File}
use Rattle.sheet.specs.Sheet.{sheet_words}
use Rattle.cases.specs.Case.{Case}
use Rattle.cases.specs.Choice.{first_undecided}
use Rattle.cases.specs.Records.{cases_in, HasCases, child_codes}
use Rattle.cases.specs.Search.{Best, State, SearchEnd, greatest_upper, first_state, next_split, split, search_from}
use Rattle.cases.specs.Store.{store_with, pattern_with}
use Rattle.bounds.specs.Bounds.{pattern_drop, case_drop, CaseMade}
use Rattle.evaluation.specs.declared.Setting.{Setting}
use Rattle.operation.specs.declared.Found.{Found}
use Rattle.operation.specs.declared.Outcome.{Outcome}
use Rattle.operation.specs.declared.Outcome.TheVariants.{Exact, Within, Spent}
use Rattle.std.specs.declared.option.Option.{Option}
use Rattle.std.specs.declared.option.Option.TheVariants.{None, Some}
use Rattle.search.specs.Search.{SearchArguments, search_of, final_sheet, found_by}
use Rattle.search.specs.declared.split.Step.{Step}
use Rattle.search.specs.declared.run.RunEnd.{RunEnd}

-- The state of a search, as its buffers have it.
unfoldable pub best_in : ℕ → ℕ → List ℕ → Best
best_in inputs threshold pattern = record { lower = threshold - 1; pattern = pattern_of inputs pattern }

unfoldable pub state_in : ℕ → ℕ → ℕ → List ℕ → List ℕ → State
state_in inputs n threshold store pattern = record { cases = cases_in inputs store n; best = best_in inputs threshold pattern }

-- The buffers of a search under way, with n cases.
pub record Running (inputs n threshold : ℕ) (store pattern : List ℕ) : Type 0 where
  pub cases : HasCases inputs store n
  pub some : 1 ≤ n
  pub threshold_low : 1 ≤ threshold
  pub threshold_high : threshold ≤ drop_limit
  pub pattern_long : length pattern ≡ 64
  pub pattern_low : (net : ℕ) → net < inputs → get_or pattern net 0 ≤ 3

-- The bytes past n cases, and past the pattern's inputs, are as they were.
pub record PastKept (inputs n : ℕ) (store pattern store' pattern' : List ℕ) : Type 0 where
  pub store_long : length store' ≡ length store
  pub store_past : (j : ℕ) → 72 * n ≤ j → get_or store' j 0 ≡ get_or store j 0
  pub pattern_long : length pattern' ≡ length pattern
  pub pattern_past : (j : ℕ) → inputs ≤ j → get_or pattern' j 0 ≡ get_or pattern j 0

-- The first case made, the whole frame, whatever simulates a pattern and bounds a case: the state of the search, and its buffers.
pub record FirstCase (simulated : List Excitation → ℕ) (bound : Case → ℕ) (file : File) (inputs : ℕ) (store pattern : List ℕ) (threshold : ℕ)
    (store' pattern' : List ℕ) : Type 0 where
  pub state : state_in inputs 1 threshold store' pattern' ≡ first_state simulated bound (frame file)
  pub running : Running inputs 1 threshold store' pattern'
  pub past : PastKept inputs 1 store pattern store' pattern'

abbrev pub FirstMade : Setting → List ℕ → List ℕ → ℕ → List ℕ → List ℕ → Type 0
FirstMade setting = FirstCase (pattern_drop setting) (case_drop setting) setting.file.now setting.inputs

-- A child made, where the parent's set at the input allows the excitation; else nothing changes. A child is put at the next
-- place: the parent's for the first, past the cases for the others.
pub record ChildMade (setting : Setting) (parent : List ℕ) (input : ℕ) (e : Excitation) (cap : ℕ) (step : Step) (store pattern : List ℕ)
    (step' : Step) (store' pattern' : List ℕ) : Type 0 where
  pub skipped : member e (decode (get_or parent input 0)) ≡ false → (step' ≡ step) × (store' ≡ store) × (pattern' ≡ pattern)
  pub made : member e (decode (get_or parent input 0)) ≡ true
      → CaseMade setting (child_codes parent input e) cap step.threshold step.next.0 store pattern step'.threshold store' pattern'
  pub counted : member e (decode (get_or parent input 0)) ≡ true
      → (step'.cases ≡ max (step.next.0 + 1) step.cases) × (step'.next.0 ≡ step'.cases)

-- The case to split: the first whose upper number is U, and U.
pub record CaseToSplit (inputs n : ℕ) (store : List ℕ) (k upper : ℕ) : Type 0 where
  pub place : k ≡ next_split (cases_in inputs store n)
  pub inside : k < n
  pub greatest : upper ≡ greatest_upper (cases_in inputs store n)

-- A case split.
pub record CaseSplit (setting : Setting) (order : List ℕ) (n threshold : ℕ) (store pattern : List ℕ)
    (n' threshold' : ℕ) (store' pattern' : List ℕ) : Type 0 where
  pub state : state_in setting.inputs n' threshold' store' pattern'
      ≡ split (pattern_drop setting) (case_drop setting) (first_undecided order) (state_in setting.inputs n threshold store pattern)
  pub running : Running setting.inputs n' threshold' store' pattern'
  pub more : n ≤ n'
  pub few : n' ≤ n + 3
  pub past : PastKept setting.inputs n' store pattern store' pattern'

-- How a run ends before a split, by the checks in order: U = L, else 1000 × U ≤ ratio × L, else the budget is used up, else not.
abbrev pub EndsSo : ℕ → ℕ → ℕ → ℕ → ℕ → Option Outcome → Type 0
EndsSo upper lower ratio splits budget (Some Exact) = upper ≡ lower
EndsSo upper lower ratio splits budget (Some Within) = (upper ≡ lower → ⊥) × (1000 * upper ≤ ratio * lower)
EndsSo upper lower ratio splits budget (Some Spent) = (upper ≡ lower → ⊥) × (ratio * lower < 1000 * upper) × (splits ≡ budget)
EndsSo upper lower ratio splits budget None = (upper ≡ lower → ⊥) × (ratio * lower < 1000 * upper) × (splits ≡ budget → ⊥)

-- The same with all that a run says at its end.
abbrev pub EndsAt : ℕ → ℕ → ℕ → ℕ → ℕ → ℕ → Option RunEnd → Type 0
EndsAt upper lower splits cases ratio budget None = EndsSo upper lower ratio splits budget None
EndsAt upper lower splits cases ratio budget (Some ended) =
    (ended ≡ record { outcome = ended.outcome; upper = upper; lower = lower; splits = splits; cases = cases })
    × EndsSo upper lower ratio splits budget (Some ended.outcome)

-- A run of the search from a state on, to its end.
pub record Ran (setting : Setting) (order : List ℕ) (ratio budget : ℕ) (start : State) (store pattern : List ℕ)
    (ended : RunEnd) (store' pattern' : List ℕ) : Type 0 where
  pub end : SearchEnd
  pub is : end ≡ search_from (pattern_drop setting) (case_drop setting) (first_undecided order) ratio budget 0 start
  pub outcome : ended.outcome ≡ end.outcome
  pub upper : ended.upper ≡ greatest_upper end.state.cases
  pub splits : ended.splits ≡ end.splits
  pub state : state_in setting.inputs ended.cases (ended.lower + 1) store' pattern' ≡ end.state
  pub running : Running setting.inputs ended.cases (ended.lower + 1) store' pattern'
  pub past : PastKept setting.inputs ended.cases store pattern store' pattern'

-- The arguments of a call that searches under a setting, as they are lent.
abbrev pub arguments_of : Setting → ℕ → ℕ → List ℕ → List ℕ → List ℕ → List ℕ → List ℕ → SearchArguments
arguments_of setting ratio budget order sheet pattern work store = record {
  file = setting.file.now;
  hops = setting.hops;
  table = setting.table.now;
  ratio = ratio;
  budget = budget;
  order = order;
  sheet = sheet;
  pattern = pattern;
  work = work;
  store = store;
}

-- An accepted call's answer and buffers.
pub record BlockSearched (given : SearchArguments) (found : Found) (sheet' pattern' store' : List ℕ) : Type 0 where
  pub answered : found ≡ found_by given
  pub sheet_written : sheet' ≡ sheet_words (final_sheet given)
  pub pattern_written : pattern' ≡ pattern_with (search_of given).state.best.pattern given.pattern
  pub store_written : store' ≡ store_with (search_of given).state.cases given.store
