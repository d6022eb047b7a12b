-- Laws of the probes of the cases in the store: L covers them at first and after each split, and which child keeps its parent's probe.
-- Assumes nothing.
use Prim.Native.Nat.{ℕ, zero, suc, ◌≤◌}
use mathlib.Core.List.Memᴰ
use mathlib.Core.List.{List, [], ◌∷◌, map, Memᴰ}
use mathlib.Core.Logic.{⊎_elim}
use mathlib.Core.Path.{◌≡◌, refl, ap, subst}
use native.Mathlib.Nat.{le_refl, le_trans}
use lib.ListN.{get_or, set}
use Rattle.excitation.specs.UncertaintySet.{empty, single}
use Rattle.excitation.specs.declared.Excitation.{Excitation}
use Rattle.cases.specs.Case.{Case, first_allowed, probe}
use Rattle.cases.specs.Probes.{ProbesCovered}
use Rattle.cases.specs.Search.{StoredCase, no_case, sets_at, greatest_upper, next_split, State, best_of, first_best, made_under, first_state, next_children, split}
use Rattle.cases.proofs.Cases.{first_single}
use Rattle.cases.proofs.Right.{best_grown, best_probed}
use Rattle.cases.proofs.Splits.{member_at, number_of, placed_from}

-- The child of a set's first allowed excitation keeps its parent's probe.
pub probe_kept : (case : Case) (input : ℕ) → probe (set case input (single (first_allowed (get_or case input empty)))) ≡ probe case
unfolding probe
probe_kept [] input = refl
probe_kept (s ∷ rest) zero = ap (λ e. e ∷ map first_allowed rest) (first_single (first_allowed s))
probe_kept (s ∷ rest) (suc input) = ap (λ es. first_allowed s ∷ es) (probe_kept rest input)

module _ (simulated : List Excitation → ℕ) where
  -- The cases in the store, by membership and not by their numbers.

  covered_each : (state : State) → ProbesCovered simulated state → {x : StoredCase} → Memᴰ x state.cases
      → simulated (probe x.sets) ≤ state.best.lower
  unfolding sets_at
  covered_each state covered m =
      let n = number_of no_case m in
      subst (λ x. simulated (probe x.sets) ≤ state.best.lower) n.2 (covered.covers n.0 n.1)

  covered_by_each : (state : State) → ((x : StoredCase) → Memᴰ x state.cases → simulated (probe x.sets) ≤ state.best.lower)
      → ProbesCovered simulated state
  unfolding sets_at
  covered_by_each state each = record { covers = λ k h. each (get_or state.cases k no_case) (member_at state.cases k no_case h) }

  -- The state once the first case is made, and after a split.

  module _ (bound : Case → ℕ) where
    pub first_covered : (frame : Case) → ProbesCovered simulated (first_state simulated bound frame)
    unfolding first_state first_best
    first_covered frame =
        covered_by_each (first_state simulated bound frame)
        (λ x m. rw (Memᴰ.eq_of_singleton m) (le_refl (simulated (probe frame))))

    pub split_covered : (choose : Case → ℕ) (state : State) → ProbesCovered simulated state → ProbesCovered simulated (split simulated bound choose state)
    unfolding split made_under
    split_covered choose state covered =
        let cases = state.cases in
        let new = next_children simulated bound choose cases in
        let make = made_under simulated bound (greatest_upper cases) in
        covered_by_each (split simulated bound choose state)
        (λ x m. ⊎_elim
        (λ made. let from = Memᴰ.of_map make new made in
        subst (λ (x : StoredCase). simulated (probe x.sets) ≤ (best_of simulated state.best new).lower) from.2
        (best_probed simulated new state.best from.1))
        (λ before. le_trans (covered_each state covered before) (best_grown simulated new state.best))
        (placed_from (next_split cases) (map make new) cases m))
