-- Laws of a case evaluated, by the test whether every input is decided.
-- Assumes nothing.
use Prim.Native.Nat.{ℕ}
use mathlib.Core.Bool.{Bool, true, false}
use mathlib.Core.List.{List}
use mathlib.Core.Path.{◌≡◌, ap, sym, ◌∙◌}
use Rattle.excitation.specs.UncertaintySet.{sets_in}
use Rattle.operation.specs.declared.Currents.{Currents}
use Rattle.sheet.specs.Sheet.{sheet_words}
use Rattle.evaluation.specs.Evaluation.{simulated_sheet, envelope_sheet, sheet_for, Evaluated}
use Rattle.evaluation.specs.declared.Setting.{Setting}
use Rattle.simulator.specs.Simulate.{SinglesEvaluated}
use Rattle.cases.specs.Case.{decided}
use Rattle.cases.specs.Records.{SetCodes}
use Rattle.cases.proofs.Cases.{evaluation_decided, evaluation_undecided}
use Rattle.cases.proofs.Singles.{decided_sets}
use Rattle.bounds.specs.Bounds.{pattern_drop, case_drop, own_upper, CaseEvaluated}

module _ (setting : Setting) {codes : List ℕ} {r : Bool} (test : r ≡ decided (sets_in setting.inputs codes)) where
  pub case_simulated : {sheet : List ℕ} {currents : Currents} → r ≡ true → SetCodes setting.inputs codes
      → SinglesEvaluated setting codes currents sheet → CaseEvaluated setting codes currents.drop sheet
  unfolding own_upper
  case_simulated t coded e =
      let d = sym test ∙ t in
      let case = sets_in setting.inputs codes in
      let told = e _ (decided_sets setting.inputs codes coded d) in
      record {
        is = ap (λ (c : Currents). c.drop) told.answered ∙ sym (evaluation_decided (pattern_drop setting) (case_drop setting) case d);
        low = told.low;
        written = told.written ∙ ap sheet_words (sym (evaluation_decided (simulated_sheet setting.file.now) (envelope_sheet setting.hops setting.file.now) case d));
      }

  pub case_enveloped : {sheet : List ℕ} {currents : Currents} → r ≡ false → Evaluated setting.table.now (sheet_for setting codes) currents sheet
      → CaseEvaluated setting codes currents.drop sheet
  unfolding own_upper
  case_enveloped t e =
      let d = sym test ∙ t in
      let case = sets_in setting.inputs codes in
      record {
        is = ap (λ (c : Currents). c.drop) e.answered ∙ sym (evaluation_undecided (pattern_drop setting) (case_drop setting) case d);
        low = e.low;
        written = e.written ∙ ap sheet_words (sym (evaluation_undecided (simulated_sheet setting.file.now) (envelope_sheet setting.hops setting.file.now) case d));
      }
