-- What a search gives (for document 01, "What the checker must hold us to", 3), from the promise of the bound that it rests on.
use Rattle.std.specs.Prelude.{ℕ, ◌+◌, ◌≤◌, ◌<◌, true, false, List, ◌≡◌, length, get_or}
use Rattle.excitation.specs.UncertaintySet.{empty}
use Rattle.excitation.specs.declared.Excitation.{Excitation}
use Rattle.block.specs.Block.{Choice, choice_count}
use Rattle.cases.specs.Case.{Case, undecided, decided}
use Rattle.cases.specs.Search.{StoredCase, SearchEnd, sets_at, greatest_upper, outcome_of}
use Rattle.operation.specs.declared.Outcome.TheVariants.{Spent}

-- No pattern of a case gives more than its bound.
abbrev pub UpperBound : (List Excitation → ℕ) → (Case → ℕ) → Type 0
UpperBound simulated bound = (pattern : List Excitation) (case : Case) → Choice pattern case → simulated pattern ≤ bound case

-- Where some input of a case with so many inputs is undecided, the choice is one of those. Of cases with more inputs or fewer nothing is
-- asked.
abbrev pub Chooses : ℕ → (Case → ℕ) → Type 0
Chooses inputs choose = (case : Case) → length case ≡ inputs → decided case ≡ false → undecided (get_or case (choose case) empty) ≡ true

-- A pattern is one of a case in the store.
pub record Covered (pattern : List Excitation) (cases : List StoredCase) : Type 0 where
  pub number : ℕ
  pub inside : number < length cases
  pub choice : Choice pattern (sets_at cases number)

-- What a search of a frame gives, with every bound that keeps its promise and every choice that takes an undecided input.
pub record Right (simulated : List Excitation → ℕ) (ratio budget : ℕ) (frame : Case) (found : SearchEnd) : Type 0 where
  -- No pattern of the frame drops more than U.
  pub above : {pattern : List Excitation} → Choice pattern frame → simulated pattern ≤ greatest_upper found.state.cases
  -- The pattern handed over is one of the frame and drops L.
  pub chosen : Choice found.state.best.pattern frame
  pub reached : simulated found.state.best.pattern ≡ found.state.best.lower
  -- The outcome is what U and L say.
  pub outcome : found.outcome ≡ outcome_of ratio (greatest_upper found.state.cases) found.state.best.lower
  -- No more is split than the budget allows. Spent means that all of it was used, and that the frame has at least two patterns more
  -- than the budget.
  pub few : found.splits ≤ budget
  pub spent : found.outcome ≡ Spent → found.splits ≡ budget
  pub enough : found.outcome ≡ Spent → budget + 2 ≤ choice_count frame
  -- A case is a frame inside the block's, and every pattern of the frame is one of a case in the store.
  pub inside : {pattern : List Excitation} (k : ℕ) → k < length found.state.cases → Choice pattern (sets_at found.state.cases k)
      → Choice pattern frame
  pub covered : {pattern : List Excitation} → Choice pattern frame → Covered pattern found.state.cases
