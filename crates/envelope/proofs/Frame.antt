-- Laws of the frame's codes and of what is evaluated from them.
-- Assumes nothing.
use Prim.Native.Nat.{ℕ}
use mathlib.Core.List.{List}
use mathlib.Core.Path.{subst}
use native.Mathlib.Omega.{arith}
use Rattle.laws.specs.Rewritten.{Rewritten}
use Rattle.excitation.proofs.Codes.{codes_enough}
use Rattle.block.specs.Record.{allowed}
use Rattle.block.proofs.Frames.{frame_code, frame_sets}
use Rattle.operation.specs.declared.Currents.{Currents}
use Rattle.evaluation.specs.Evaluation.{InputCodes, envelope_sheet, sheet_for, Evaluated}
use Rattle.evaluation.specs.declared.Setting.{Setting}
use Rattle.envelope.specs.Envelope.{frame_sheet}

module _ (setting : Setting) {given codes : List ℕ} (coded : Rewritten (allowed setting.file.now) 0 setting.inputs given codes) where
  pub frame_codes : InputCodes setting.inputs codes
  frame_codes = record {
    enough = codes_enough codes (λ net h. rw (frame_code setting.accepted coded net h) ((setting.accepted.input net h).allowed_low));
    low = λ net h. (let high = (setting.accepted.input net h).allowed_high in omega (arith, frame_code setting.accepted coded net h));
  }

  pub frame_evaluated : {words : List ℕ} {answer : Currents} → Evaluated setting.table.now (sheet_for setting codes) answer words
      → Evaluated setting.table.now (frame_sheet setting.hops setting.file.now) answer words
  frame_evaluated {words} {answer} e =
      subst (λ sets. Evaluated setting.table.now (envelope_sheet setting.hops setting.file.now sets) answer words) (frame_sets setting.accepted coded) e
