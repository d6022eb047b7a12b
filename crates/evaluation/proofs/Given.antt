-- Laws of what an evaluation is given.
-- Assumes nothing.
use mathlib.Core.List.{List}
use mathlib.Core.Path.{◌≡◌, ◌∙◌}
use Prim.Native.Nat.{ℕ}
use native.Mathlib.Omega.{arith}
use lib.ListN.{length}
use Rattle.evaluation.specs.Evaluation.{Evaluable}
use Rattle.evaluation.specs.declared.Setting.{Setting}

-- It stays ready while its buffers keep their lengths.
pub evaluable_kept : {setting : Setting} {sheet work sheet' work' : List ℕ} → Evaluable setting sheet work
    → length sheet' ≡ length sheet → length work' ≡ length work → Evaluable setting sheet' work'
evaluable_kept ready s w = record {
  sheet_long = s ∙ ready.sheet_long;
  rows = record { whole = omega (arith, ready.rows.whole); numbered = ready.rows.numbered };
}
