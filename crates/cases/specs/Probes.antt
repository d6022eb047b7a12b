-- The drops of the probes of the cases in the store (for document 01, "Search"): L is no less, so a case that keeps the probe of one of
-- them cannot raise it.
use Rattle.std.specs.Prelude.{ℕ, ◌≤◌, ◌<◌, List, length}
use Rattle.excitation.specs.declared.Excitation.{Excitation}
use Rattle.cases.specs.Case.{probe}
use Rattle.cases.specs.Search.{State, sets_at}

-- L covers the probe of every case in the store.
pub record ProbesCovered (simulated : List Excitation → ℕ) (state : State) : Type 0 where
  pub covers : (k : ℕ) → k < length state.cases → simulated (probe (sets_at state.cases k)) ≤ state.best.lower
