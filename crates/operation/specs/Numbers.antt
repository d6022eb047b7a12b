-- The eight numbers of an answer: 0 and the values that document 01 and the requests name for an accepted call, or the refusal's number
-- and place; 0 past them.
use Rattle.std.specs.Prelude.{ℕ, ◌-◌, List, [], ◌∷◌, ◌++◌, length, replicate, Result, Ok, Err}
use Rattle.block.specs.declared.Counts.{Counts}
use Rattle.block.specs.declared.verdict.Refusal.{Refusal}
use Rattle.block.specs.Verdict.{number_of}
use Rattle.operation.specs.declared.Currents.{Currents}
use Rattle.operation.specs.declared.Found.{Found}
use Rattle.operation.specs.declared.Outcome.{Outcome}
use Rattle.operation.specs.declared.Outcome.TheVariants.{Exact, Within, Spent}
use Rattle.operation.specs.declared.SplitOrder.{SplitOrder}

-- Eight numbers that begin with the given ones, 0 past them.
abbrev pub eight : List ℕ → List ℕ
eight given = given ++ replicate (8 - length given) 0

-- A refusal: its number and its place.
abbrev pub refusal_numbers : Refusal → List ℕ
refusal_numbers r = eight (number_of r.reason ∷ r.place ∷ [])

-- An answer, by the values of what an accepted call finds.
abbrev pub answer_numbers : {T : Type 0} → (T → List ℕ) → Result T Refusal → List ℕ
answer_numbers values (Ok found) = eight (0 ∷ values found)
answer_numbers values (Err r) = refusal_numbers r

-- Read: the counts of nets and inputs.
abbrev pub counts_values : Counts → List ℕ
counts_values counts = counts.nets ∷ counts.inputs ∷ []

abbrev pub read_numbers : Result Counts Refusal → List ℕ
read_numbers = answer_numbers counts_values

-- Envelope and Simulate: the drop and the quiet tick.
abbrev pub currents_values : Currents → List ℕ
currents_values found = found.drop ∷ found.quiet ∷ []

abbrev pub currents_numbers : Result Currents Refusal → List ℕ
currents_numbers = answer_numbers currents_values

-- The number of an outcome: 0 exact, 1 within, 2 spent.
abbrev pub outcome_number : Outcome → ℕ
outcome_number Exact = 0
outcome_number Within = 1
outcome_number Spent = 2

-- Search: outcome, U, L, splits, cases and the quiet tick.
abbrev pub found_values : Found → List ℕ
found_values found = outcome_number found.outcome ∷ found.upper ∷ found.lower ∷ found.splits ∷ found.cases ∷ found.quiet ∷ []

abbrev pub search_numbers : Result Found Refusal → List ℕ
search_numbers = answer_numbers found_values

-- A maker of a list of inputs: how many inputs it names.
abbrev pub order_values : SplitOrder → List ℕ
order_values order = order.inputs ∷ []

abbrev pub order_numbers : Result SplitOrder Refusal → List ℕ
order_numbers = answer_numbers order_values
