-- The agreement over the calls follows from the agreement over the promises: an accepted call's numbers are those of what it found.
-- Assumes nothing.
use Rattle.std.specs.Prelude.{Ok}
use Rattle.block.specs.Verdict.{Accepted}
use Prim.Native.Nat.{ℕ, ◌≤◌}
use mathlib.Core.Bool.{cond}
use mathlib.Core.List.{List}
use mathlib.Core.Path.{◌≡◌, refl, ap, sym, subst, ◌∙◌}
use lib.Dec.{eqb}
use Rattle.operation.specs.Numbers.{currents_numbers, outcome_number, search_numbers}
use Rattle.operation.specs.Operation.{answer_after}
use Rattle.operation.specs.declared.Found.{Found}
use Rattle.operation.specs.declared.Outcome.{Outcome}
use Rattle.operation.specs.declared.Outcome.TheVariants.{Exact, Within, Spent}
use Rattle.evaluation.specs.Evaluation.{currents_of}
use Rattle.simulator.specs.Simulate.{SimulateArguments, given_sheet, simulate_answer, Simulated}
use Rattle.search.specs.Agreement.{sharing, Agrees}
use Rattle.search.specs.Search.{SearchArguments, search_verdict, found_by, Searched}
use Rattle.search.proofs.Agreement.{agreement}
use Rattle.zimgurav.specs.Accepted.{refused_with}
use Rattle.zimgurav.specs.Agreement.{drop_answered, quiet_answered, CallsAgree, CallsAgreement}
use Rattle.zimgurav.specs.Calls.{SimulateCalled}
use Rattle.zimgurav.proofs.Accepted.{accepted_calls}

-- A call of Simulate keeps Simulate's promise.
simulated_by : (given : SimulateArguments) {sheet' work' numbers : List ℕ} → SimulateCalled given sheet' work' numbers
    → Simulated given (simulate_answer given) sheet' work'
simulated_by given call = record { answered = refl; written = call.written; kept = call.kept }

-- An accepted one found the currents of its pattern, and its numbers are theirs.
module _ (given : SimulateArguments) {sheet' work' numbers : List ℕ} (call : SimulateCalled given sheet' work' numbers) (zero : refused_with numbers ≡ 0) where
  answer_is : simulate_answer given ≡ Ok (currents_of given.table (given_sheet given))
  answer_is =
      ap (λ v. answer_after v (currents_of given.table (given_sheet given))) ((accepted_calls.simulate given _ _ _ call).zero_means zero)

  found_by_lem : Simulated given (Ok (currents_of given.table (given_sheet given))) sheet' work'
  found_by_lem = subst (λ answer. Simulated given answer sheet' work') answer_is (simulated_by given call)

  drop_is : drop_answered numbers ≡ (currents_of given.table (given_sheet given)).drop
  drop_is = ap drop_answered (call.answered ∙ ap currents_numbers answer_is)

  quiet_is : quiet_answered numbers ≡ (currents_of given.table (given_sheet given)).quiet
  quiet_is = ap quiet_answered (call.answered ∙ ap currents_numbers answer_is)

-- An outcome is known by its number.

abbrev outcome_with : ℕ → Outcome
outcome_with n = cond (eqb n 0) Exact (cond (eqb n 1) Within Spent)

outcome_back : (outcome : Outcome) → outcome_with (outcome_number outcome) ≡ outcome
outcome_back Exact = refl
outcome_back Within = refl
outcome_back Spent = refl

same_outcome : (a b : Outcome) → outcome_number a ≡ outcome_number b → a ≡ b
same_outcome a b e = sym (outcome_back a) ∙ ap outcome_with e ∙ outcome_back b

-- What an accepted search found agrees, so its numbers do.
numbers_agree : (given : SearchArguments) (found : Found) (sheet pattern : List ℕ) → Agrees given found sheet pattern
    → CallsAgree given sheet pattern (search_numbers (Ok found))
numbers_agree given found sheet pattern agrees = record {
  draws_no_more = λ room bytes work simulated work' told call zero.
      agrees.draws_no_more room bytes work _ simulated work' (found_by_lem (sharing given room bytes work) call zero);
  drops_no_more = λ room bytes work simulated work' told call zero.
      subst (λ drop. drop ≤ found.upper) (sym (drop_is (sharing given room bytes work) call zero))
      (agrees.drops_no_more room bytes work _ simulated work' (found_by_lem (sharing given room bytes work) call zero));
  quiet_no_later = λ room bytes work simulated work' told call zero.
      subst (λ quiet. quiet ≤ found.quiet) (sym (quiet_is (sharing given room bytes work) call zero))
      (agrees.quiet_no_later room bytes work _ simulated work' (found_by_lem (sharing given room bytes work) call zero));
  pattern_chosen = agrees.pattern_chosen;
  pattern_drops = λ room work simulated work' told sheet_long work_long call.
      (let given' = sharing given room pattern work in
      let numbers_are = call.answered ∙ ap currents_numbers (agrees.pattern_drops room work _ simulated work' sheet_long work_long (simulated_by given' call)) in
      (ap refused_with numbers_are, ap drop_answered numbers_are, ap quiet_answered numbers_are));
  exact_means = λ e. agrees.exact_means (same_outcome found.outcome Exact e);
  exact_when = λ e. ap outcome_number (agrees.exact_when e);
  exact_drops = λ e room bytes work simulated work' told call zero.
      subst (λ drop. drop ≤ found.lower) (sym (drop_is (sharing given room bytes work) call zero))
      (agrees.exact_drops (same_outcome found.outcome Exact e) room bytes work _ simulated work' (found_by_lem (sharing given room bytes work) call zero));
  within_means = λ e. agrees.within_means (same_outcome found.outcome Within e);
  within_when = λ n h. ap outcome_number (agrees.within_when n h);
  spent_means = λ e. agrees.spent_means (same_outcome found.outcome Spent e);
  spent_when = λ n h. ap outcome_number (agrees.spent_when n h);
  spent_splits = λ e. agrees.spent_splits (same_outcome found.outcome Spent e);
  splits_within = agrees.splits_within;
  budget_enough = λ enough e. agrees.budget_enough enough (same_outcome found.outcome Spent e);
}

-- Every accepted call of Search agrees with every accepted call of Simulate on the same file and table.
pub calls_agree : CallsAgreement
calls_agree given sheet' pattern' work' store' numbers call zero =
    let passed : search_verdict given ≡ Accepted = (accepted_calls.search given _ _ _ _ _ call).zero_means zero in
    let found_is : call.answer ≡ Ok (found_by given) =
    call.searched.answered ∙ ap (λ v. answer_after v (found_by given)) passed in
    let searched : Searched given (Ok (found_by given)) sheet' pattern' work' store' =
    subst (λ answer. Searched given answer sheet' pattern' work' store') found_is call.searched in
    subst (CallsAgree given sheet' pattern') (sym (call.numbered ∙ ap search_numbers found_is))
    (numbers_agree given (found_by given) sheet' pattern' (agreement given _ sheet' pattern' work' store' searched))
