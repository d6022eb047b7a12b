-- The best-first search (document 01, "Search"), over any simulation of a pattern, any bound of a case and any choice of the input to
-- split. The search rests on the envelope's promise and on nothing inside it, so none of these is known here.
use Rattle.std.specs.Prelude.{ℕ, zero, suc, ◌*◌, min, cond, List, [], ◌∷◌, ◌++◌, map, eqb, leb, ltb, length, get_or, set}
use Rattle.laws.specs.Below.{max_below, argmax}
use Rattle.excitation.specs.declared.Excitation.{Excitation}
use Rattle.cases.specs.Case.{Case, probe, evaluation_of, children}
use Rattle.operation.specs.declared.Outcome.{Outcome}
use Rattle.operation.specs.declared.Outcome.TheVariants.{Exact, Within, Spent}

-- Document 01's L, the greatest probe drop, and the pattern, the first probe to reach it.
pub record Best : Type 0 where
  pub lower : ℕ
  pub pattern : List Excitation

module _ (simulated : List Excitation → ℕ) where
  -- The best probe once the first case is made.
  unfoldable pub first_best : Case → Best
  first_best frame = record { lower = simulated (probe frame); pattern = probe frame }

  -- The better of the best probe so far and the probe of one case more.
  unfoldable pub better : Best → Case → Best
  better best case =
      let drop = simulated (probe case) in
      cond (ltb best.lower drop) (record { lower = drop; pattern = probe case }) best

  unfoldable pub best_of : Best → List Case → Best
  best_of best [] = best
  best_of best (case ∷ rest) = best_of (better best case) rest

-- A case in the store, and document 01's upper number of it.
pub record StoredCase : Type 0 where
  pub sets : Case
  pub upper : ℕ

module _ (simulated : List Excitation → ℕ) (bound : Case → ℕ) where
  -- A case with its upper number: of a case with every input decided its simulated drop, of another its envelope's drop; never above
  -- its parent's, which is the cap.
  unfoldable pub made_under : ℕ → Case → StoredCase
  made_under cap case = record { sets = case; upper = min cap (evaluation_of simulated bound case) }

-- What stands for a case past the store's end.
abbrev pub no_case : StoredCase
no_case = record { sets = []; upper = 0 }

unfoldable pub upper_at : List StoredCase → ℕ → ℕ
upper_at cases k = (get_or cases k no_case).upper

unfoldable pub sets_at : List StoredCase → ℕ → Case
sets_at cases k = (get_or cases k no_case).sets

-- Document 01's U: the greatest upper number of the cases not split. A split case is in the store no more.
unfoldable pub greatest_upper : List StoredCase → ℕ
greatest_upper cases = max_below (length cases) (upper_at cases)

-- Where a search stands.
pub record State : Type 0 where
  pub cases : List StoredCase
  pub best : Best

-- The first case is the whole frame. It has no parent.
unfoldable pub first_state : (List Excitation → ℕ) → (Case → ℕ) → Case → State
first_state simulated bound frame = record {
  cases = record { sets = frame; upper = evaluation_of simulated bound frame } ∷ [];
  best = first_best simulated frame;
}

-- Document 01's outcome, by the checks before each split: exact if U = L; else within if 1000 × U ≤ ratio × L; else spent, where no
-- split is left.
unfoldable pub outcome_of : ℕ → ℕ → ℕ → Outcome
outcome_of ratio upper lower = cond (eqb upper lower) Exact (cond (leb (1000 * upper) (ratio * lower)) Within Spent)

unfoldable pub outcome_at : ℕ → State → Outcome
outcome_at ratio state = outcome_of ratio (greatest_upper state.cases) state.best.lower

-- The number of the case to split: the first whose upper number is U.
unfoldable pub next_split : List StoredCase → ℕ
next_split cases = argmax (length cases) (upper_at cases)

-- Children in their places: the first takes the parent's place, the rest are appended.
unfoldable pub placed : ℕ → List StoredCase → List StoredCase → List StoredCase
placed k [] cases = cases
placed k (x ∷ rest) cases = set cases k x ++ rest

module _ (simulated : List Excitation → ℕ) (bound choose : Case → ℕ) where
  -- The children of the case to split.
  unfoldable pub next_children : List StoredCase → List Case
  next_children cases = let parent = sets_at cases (next_split cases) in children (choose parent) parent

  -- Document 01's split. The parent is a case whose upper number is U, so U is the cap of its children.
  unfoldable pub split : State → State
  split state =
      let cases = state.cases in
      let new = next_children cases in
      record {
        cases = placed (next_split cases) (map (made_under simulated bound (greatest_upper cases)) new) cases;
        best = best_of simulated state.best new;
      }

-- How a search ended, after how many splits, and where.
pub record SearchEnd : Type 0 where
  pub outcome : Outcome
  pub splits : ℕ
  pub state : State

module _ (simulated : List Excitation → ℕ) (bound choose : Case → ℕ) (ratio : ℕ) where
  -- A search from a state on, after some splits, with so many left. No split left is splits = budget; where some are left and it is
  -- neither exact nor within, it goes on with one split.
  unfoldable pub search_from : ℕ → ℕ → State → SearchEnd
  search_from zero splits state = record { outcome = outcome_at ratio state; splits = splits; state = state }
  search_from (suc left) splits state = elim (outcome_at ratio state) [
    | Exact ↦ record { outcome = Exact; splits = splits; state = state }
    | Within ↦ record { outcome = Within; splits = splits; state = state }
    | Spent ↦ search_from left (suc splits) (split simulated bound choose state)
  ]

  -- Document 01's search, with a budget of splits, of a frame.
  unfoldable pub search : ℕ → Case → SearchEnd
  search budget frame = search_from budget 0 (first_state simulated bound frame)

-- The sheet of a search: the greatest, at each place, over the cases in the store at the end, decided ones simulated.
unfoldable pub cases_sheet : (List Excitation → ℕ → ℕ → ℕ) → (Case → ℕ → ℕ → ℕ) → List StoredCase → ℕ → ℕ → ℕ
cases_sheet simulated enveloped cases c t = max_below (length cases) (λ k. evaluation_of simulated enveloped (sets_at cases k) c t)
