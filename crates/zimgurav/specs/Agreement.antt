-- The agreement of the two houses over the calls that they link (document 01, "What the checker must hold us to", 3): the same statement as
-- search/specs/Agreement.antt, over the eight numbers of each answer and the buffers as they stand at return. One house calls Search, with
-- whatever hop limit, ratio, budget and list of inputs, and the other calls Simulate on whichever pattern in the frame; the two calls share
-- the file and the table, and nothing else. The clause on quiet ticks is request 3's.
use Rattle.std.specs.Prelude.{ℕ, ◌+◌, ◌*◌, ◌≤◌, ◌<◌, List, ◌≡◌, length, get_or}
use Rattle.excitation.specs.Excitation.{pattern_of}
use Rattle.block.specs.Block.{frame, input_count, pattern_count, Choice}
use Rattle.block.specs.Record.{net_count}
use Rattle.sheet.specs.Sheet.{quiet_tick}
use Rattle.simulator.specs.Simulate.{pattern_sheet}
use Rattle.search.specs.Agreement.{sharing}
use Rattle.search.specs.Search.{SearchArguments}
use Rattle.zimgurav.specs.Accepted.{refused_with}
use Rattle.zimgurav.specs.Calls.{SimulateCalled, SearchCalled}

-- The numbers of an accepted call of Simulate, after the first: its drop and its quiet tick.
abbrev pub drop_answered : List ℕ → ℕ
drop_answered numbers = get_or numbers 1 0

abbrev pub quiet_answered : List ℕ → ℕ
quiet_answered numbers = get_or numbers 2 0

-- The numbers of an accepted call of Search, after the first: the number of its outcome (0 exact, 1 within, 2 spent), U, L, its splits, and,
-- after the cases, the quiet tick of its final sheet.
abbrev pub outcome_answered : List ℕ → ℕ
outcome_answered numbers = get_or numbers 1 0

abbrev pub upper_answered : List ℕ → ℕ
upper_answered numbers = get_or numbers 2 0

abbrev pub lower_answered : List ℕ → ℕ
lower_answered numbers = get_or numbers 3 0

abbrev pub splits_answered : List ℕ → ℕ
splits_answered numbers = get_or numbers 4 0

abbrev pub final_quiet_answered : List ℕ → ℕ
final_quiet_answered numbers = get_or numbers 6 0

-- What a call of Search that was accepted gives: its numbers, and its sheet and pattern buffers at return. Of a call of Simulate, `room` is
-- the sheet as it was lent, `bytes` the pattern buffer, `simulated` the sheet at return, `told` its numbers.
pub record CallsAgree (given : SearchArguments) (sheet pattern numbers : List ℕ) : Type 0 where
  -- Whichever pattern Simulate accepts, no word of its sheet is above the search's, and its drop is not above U.
  pub draws_no_more : (room bytes work simulated work' told : List ℕ) → SimulateCalled (sharing given room bytes work) simulated work' told
      → refused_with told ≡ 0 → (i : ℕ) → get_or simulated i 0 ≤ get_or sheet i 0
  pub drops_no_more : (room bytes work simulated work' told : List ℕ) → SimulateCalled (sharing given room bytes work) simulated work' told
      → refused_with told ≡ 0 → drop_answered told ≤ upper_answered numbers
  -- Nor is its quiet tick later than the search's, so that a rail clipped at the search's tick loses no current of any pattern.
  pub quiet_no_later : (room bytes work simulated work' told : List ℕ) → SimulateCalled (sharing given room bytes work) simulated work' told
      → refused_with told ≡ 0 → quiet_answered told ≤ final_quiet_answered numbers
  -- The pattern handed over is a choice of the frame. Simulate, given the search's pattern buffer and buffers of the right sizes, accepts
  -- it, and it drops exactly L; its quiet tick is that of its own simulated sheet.
  pub pattern_chosen : Choice (pattern_of (input_count given.file) pattern) (frame given.file)
  pub pattern_drops : (room work simulated work' told : List ℕ) → length room ≡ 8192 → 160 * net_count given.file ≤ length work
      → SimulateCalled (sharing given room pattern work) simulated work' told
      → (refused_with told ≡ 0) × (drop_answered told ≡ lower_answered numbers)
      × (quiet_answered told ≡ quiet_tick (pattern_sheet given.file pattern))
  -- Exact (0) exactly when U = L, and then every accepted pattern drops at most L.
  pub exact_means : outcome_answered numbers ≡ 0 → upper_answered numbers ≡ lower_answered numbers
  pub exact_when : upper_answered numbers ≡ lower_answered numbers → outcome_answered numbers ≡ 0
  pub exact_drops : outcome_answered numbers ≡ 0 → (room bytes work simulated work' told : List ℕ)
      → SimulateCalled (sharing given room bytes work) simulated work' told → refused_with told ≡ 0 → drop_answered told ≤ lower_answered numbers
  -- Within (1) exactly when U is not L and 1000 × U ≤ ratio × L.
  pub within_means : outcome_answered numbers ≡ 1
      → (upper_answered numbers ≡ lower_answered numbers → ⊥) × (1000 * upper_answered numbers ≤ given.ratio * lower_answered numbers)
  pub within_when : (upper_answered numbers ≡ lower_answered numbers → ⊥) → 1000 * upper_answered numbers ≤ given.ratio * lower_answered numbers
      → outcome_answered numbers ≡ 1
  -- Spent (2) exactly when neither, and then all of the budget was used.
  pub spent_means : outcome_answered numbers ≡ 2
      → (upper_answered numbers ≡ lower_answered numbers → ⊥) × (given.ratio * lower_answered numbers < 1000 * upper_answered numbers)
  pub spent_when : (upper_answered numbers ≡ lower_answered numbers → ⊥) → given.ratio * lower_answered numbers < 1000 * upper_answered numbers
      → outcome_answered numbers ≡ 2
  pub spent_splits : outcome_answered numbers ≡ 2 → splits_answered numbers ≡ given.budget
  pub splits_within : splits_answered numbers ≤ given.budget
  -- With N the product, over the inputs, of how many excitations byte 18 allows: a budget of at least N − 1 never ends spent.
  pub budget_enough : pattern_count given.file ≤ given.budget + 1 → outcome_answered numbers ≡ 2 → ⊥

-- The third demand, over the calls: every accepted call of Search agrees with every accepted call of Simulate on the same file and table.
abbrev pub CallsAgreement : Type 0
CallsAgreement = (given : SearchArguments) (sheet' pattern' work' store' numbers : List ℕ)
    → SearchCalled given sheet' pattern' work' store' numbers → refused_with numbers ≡ 0 → CallsAgree given sheet' pattern' numbers
