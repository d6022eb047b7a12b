-- Laws of a case made: its probe simulated, and its upper number.
-- Assumes nothing.
use Prim.Native.Nat.{ℕ, ◌≤◌, ◌<◌}
use mathlib.Core.Bool.{Bool, true, false}
use mathlib.Core.List.{List}
use mathlib.Core.Path.{◌≡◌, ap, sym, ◌∙◌}
use native.Mathlib.Omega.{arith}
use lib.ListN.{length, get_or}
use Rattle.excitation.specs.UncertaintySet.{code, decode, single, sets_in}
use Rattle.excitation.proofs.Codes.{code_below, single_coded, codes_enough}
use Rattle.block.specs.Limits.{drop_limit}
use Rattle.operation.specs.declared.Currents.{Currents}
use Rattle.evaluation.specs.Evaluation.{InputCodes, sheet_for, Evaluated}
use Rattle.evaluation.specs.declared.Setting.{Setting}
use Rattle.simulator.specs.Simulate.{SinglesEvaluated}
use Rattle.cases.specs.Case.{decided, first_allowed}
use Rattle.cases.specs.Records.{SetCodes}
use Rattle.cases.proofs.Cases.{evaluation_decided, evaluation_undecided}
use Rattle.cases.proofs.Singles.{probe_sets}
use Rattle.bounds.specs.Bounds.{pattern_drop, case_drop, own_upper, probe_drop, upper_of}

-- The codes of a case's sets, as an evaluation takes them.
pub case_codes : {inputs : ℕ} {codes : List ℕ} → inputs ≤ 64 → length codes ≡ 64 → SetCodes inputs codes → InputCodes inputs codes
case_codes few long coded = record { enough = omega arith; low = λ net h. omega (arith, coded.high net h) }

-- The drop of a probe, simulated by the codes of its single sets, whatever stands past the inputs.

pub probe_codes : {inputs : ℕ} (codes : List ℕ) {singles : List ℕ}
    → ((net : ℕ) → net < inputs → get_or singles net 0 ≡ code (single (first_allowed (decode (get_or codes net 0))))) → InputCodes inputs singles
probe_codes codes {singles} coded = record {
  enough = codes_enough singles (λ net h. rw (coded net h) (single_coded _));
  low = λ net h. rw (coded net h) (code_below _);
}

pub probe_simulated : {words : List ℕ} {answer : Currents} (setting : Setting) (codes singles : List ℕ)
    → ((net : ℕ) → net < setting.inputs → get_or singles net 0 ≡ code (single (first_allowed (decode (get_or codes net 0)))))
    → SinglesEvaluated setting singles answer words
    → (answer.drop ≡ probe_drop setting codes) × (answer.drop < drop_limit)
probe_simulated setting codes singles coded e =
    let is = e _ (probe_sets setting.inputs codes singles coded) in
    (ap (λ (c : Currents). c.drop) is.answered, is.low)

-- The upper number of a case before the cap, by the test whether every input is decided.

module _ (setting : Setting) (codes : List ℕ) {r : Bool} (test : r ≡ decided (sets_in setting.inputs codes)) where
  pub upper_simulated : {drop : ℕ} → r ≡ true → drop ≡ probe_drop setting codes → drop < drop_limit
      → (drop ≡ upper_of setting codes) × (drop < drop_limit)
  unfolding own_upper
  upper_simulated t e low =
      (e ∙ sym (evaluation_decided (pattern_drop setting) (case_drop setting) (sets_in setting.inputs codes) (sym test ∙ t)), low)

  pub upper_enveloped : {sheet : List ℕ} {currents : Currents} → r ≡ false → Evaluated setting.table.now (sheet_for setting codes) currents sheet
      → (currents.drop ≡ upper_of setting codes) × (currents.drop < drop_limit)
  unfolding own_upper
  upper_enveloped t e = (
    ap (λ (c : Currents). c.drop) e.answered
        ∙ sym (evaluation_undecided (pattern_drop setting) (case_drop setting) (sets_in setting.inputs codes) (sym test ∙ t)),
    e.low,
  )
