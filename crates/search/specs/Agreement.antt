-- The agreement of the two houses (document 01, "What the checker must hold us to", 3): one house's search, whatever its hop limit, ratio,
-- budget and list of inputs, and the other's simulation of whichever pattern in the frame. Both are given by the promises of the
-- operations and by the buffers as they stand at return; the two runs share the file and the table, and nothing else. The clause on quiet
-- ticks is request 3's.
use Rattle.std.specs.Prelude.{Result, Ok}
use Rattle.block.specs.declared.verdict.Refusal.{Refusal}
use Rattle.std.specs.Prelude.{ℕ, ◌+◌, ◌*◌, ◌≤◌, ◌<◌, List, ◌≡◌, length, get_or}
use Rattle.excitation.specs.Excitation.{pattern_of}
use Rattle.block.specs.Block.{frame, input_count, pattern_count, Choice}
use Rattle.block.specs.Record.{net_count}
use Rattle.operation.specs.declared.Currents.{Currents}
use Rattle.operation.specs.declared.Found.{Found}
use Rattle.operation.specs.declared.Outcome.TheVariants.{Exact, Within, Spent}
use Rattle.sheet.specs.Sheet.{quiet_tick}
use Rattle.simulator.specs.Simulate.{SimulateArguments, pattern_sheet, Simulated}
use Rattle.search.specs.Search.{SearchArguments, Searched}

-- A run of Simulate on the file and the table of a search, with a sheet, a pattern and a work buffer of its own.
abbrev pub sharing : SearchArguments → List ℕ → List ℕ → List ℕ → SimulateArguments
sharing given room bytes work = record { file = given.file; table = given.table; sheet = room; pattern = bytes; work = work }

-- What a search that was accepted gives: what it found, and its sheet and pattern buffers at return. Of a run of Simulate, `room` is the
-- sheet as it was lent, `bytes` the pattern buffer, `simulated` the sheet at return.
pub record Agrees (given : SearchArguments) (found : Found) (sheet pattern : List ℕ) : Type 0 where
  -- Whichever pattern Simulate accepts, no word of its sheet is above the search's, and its drop is not above U.
  pub draws_no_more : (room bytes work : List ℕ) (answer : Currents) (simulated work' : List ℕ)
      → Simulated (sharing given room bytes work) (Ok answer) simulated work' → (i : ℕ) → get_or simulated i 0 ≤ get_or sheet i 0
  pub drops_no_more : (room bytes work : List ℕ) (answer : Currents) (simulated work' : List ℕ)
      → Simulated (sharing given room bytes work) (Ok answer) simulated work' → answer.drop ≤ found.upper
  -- Nor is its quiet tick later than the search's, so that a rail clipped at the search's tick loses no current of any pattern.
  pub quiet_no_later : (room bytes work : List ℕ) (answer : Currents) (simulated work' : List ℕ)
      → Simulated (sharing given room bytes work) (Ok answer) simulated work' → answer.quiet ≤ found.quiet
  -- The pattern handed over is a choice of the frame. Simulate, given the search's pattern buffer and buffers of the right sizes, accepts
  -- it, and it drops exactly L; its quiet tick is that of its own simulated sheet.
  pub pattern_chosen : Choice (pattern_of (input_count given.file) pattern) (frame given.file)
  pub pattern_drops : (room work : List ℕ) (answer : Result Currents Refusal) (simulated work' : List ℕ) → length room ≡ 8192
      → 160 * net_count given.file ≤ length work → Simulated (sharing given room pattern work) answer simulated work'
      → answer ≡ Ok (record { drop = found.lower; quiet = quiet_tick (pattern_sheet given.file pattern) })
  -- Exact exactly when U = L, and then every accepted pattern drops at most L.
  pub exact_means : found.outcome ≡ Exact → found.upper ≡ found.lower
  pub exact_when : found.upper ≡ found.lower → found.outcome ≡ Exact
  pub exact_drops : found.outcome ≡ Exact → (room bytes work : List ℕ) (answer : Currents) (simulated work' : List ℕ)
      → Simulated (sharing given room bytes work) (Ok answer) simulated work' → answer.drop ≤ found.lower
  -- Within exactly when U is not L and 1000 × U ≤ ratio × L.
  pub within_means : found.outcome ≡ Within → (found.upper ≡ found.lower → ⊥) × (1000 * found.upper ≤ given.ratio * found.lower)
  pub within_when : (found.upper ≡ found.lower → ⊥) → 1000 * found.upper ≤ given.ratio * found.lower → found.outcome ≡ Within
  -- Spent exactly when neither, and then all of the budget was used.
  pub spent_means : found.outcome ≡ Spent → (found.upper ≡ found.lower → ⊥) × (given.ratio * found.lower < 1000 * found.upper)
  pub spent_when : (found.upper ≡ found.lower → ⊥) → given.ratio * found.lower < 1000 * found.upper → found.outcome ≡ Spent
  pub spent_splits : found.outcome ≡ Spent → found.splits ≡ given.budget
  pub splits_within : found.splits ≤ given.budget
  -- With N the product, over the inputs, of how many excitations byte 18 allows: a budget of at least N − 1 never ends spent.
  pub budget_enough : pattern_count given.file ≤ given.budget + 1 → found.outcome ≡ Spent → ⊥

-- The third demand: every accepted search agrees with every accepted simulation of the same file and table.
abbrev pub Agreement : Type 0
Agreement = (given : SearchArguments) (found : Found) (sheet' pattern' work' store' : List ℕ)
    → Searched given (Ok found) sheet' pattern' work' store' → Agrees given found sheet' pattern'
