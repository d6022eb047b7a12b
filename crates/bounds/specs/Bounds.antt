-- What a search takes of the evaluations (for document 01, "Search"): the drop of a case's probe, its upper number, and the sheet over
-- cases; and what the functions that make a case promise.
use Rattle.std.specs.Prelude.{ℕ, ◌+◌, ◌*◌, ◌≤◌, ◌<◌, min, List, ◌≡◌}
use Rattle.laws.specs.Rewritten.{Rewritten}
use Rattle.excitation.specs.UncertaintySet.{sets_in}
use Rattle.excitation.specs.declared.Excitation.{Excitation}
use Rattle.block.specs.Limits.{drop_limit}
use Rattle.block.specs.Record.{File}
use Rattle.sheet.specs.Sheet.{Sheet, sheet_words, drop_of}
use Rattle.evaluation.specs.Evaluation.{simulated_sheet, envelope_sheet}
use Rattle.evaluation.specs.declared.Setting.{Setting}
use Rattle.cases.specs.Case.{Case, probe, evaluation_of}
use Rattle.cases.specs.Records.{record_byte}
use Rattle.cases.specs.Search.{StoredCase, cases_sheet}
use Rattle.cases.specs.Store.{pattern_byte}

-- What a case is bounded by: the drop of a pattern's simulation, and the drop of a case's envelope.
abbrev pub simulated_drop : File → List ℕ → List Excitation → ℕ
simulated_drop file table pattern = drop_of table (simulated_sheet file pattern)

abbrev pub envelope_drop : File → ℕ → List ℕ → Case → ℕ
envelope_drop file hops table case = drop_of table (envelope_sheet hops file case)

-- The sheet over some cases, decided ones simulated.
abbrev pub sheet_over : File → ℕ → List StoredCase → Sheet
sheet_over file hops = cases_sheet (simulated_sheet file) (envelope_sheet hops file)

-- The upper number of a case before the cap.
unfoldable pub own_upper : File → ℕ → List ℕ → Case → ℕ
own_upper file hops table = evaluation_of (simulated_drop file table) (envelope_drop file hops table)

-- The drops of a pattern and of a case, and the sheet of the case with these codes, under a setting.
abbrev pub pattern_drop : Setting → List Excitation → ℕ
pattern_drop setting = simulated_drop setting.file.now setting.table.now

abbrev pub case_drop : Setting → Case → ℕ
case_drop setting = envelope_drop setting.file.now setting.hops setting.table.now

abbrev pub case_sheet : Setting → List ℕ → Sheet
case_sheet setting codes = evaluation_of (simulated_sheet setting.file.now) (envelope_sheet setting.hops setting.file.now) (sets_in setting.inputs codes)

-- The drop of a case's probe, given the codes of the case's sets.
abbrev pub probe_drop : Setting → List ℕ → ℕ
probe_drop setting codes = pattern_drop setting (probe (sets_in setting.inputs codes))

-- The upper number before the cap of the case with these codes.
abbrev pub upper_of : Setting → List ℕ → ℕ
upper_of setting codes = own_upper setting.file.now setting.hops setting.table.now (sets_in setting.inputs codes)

-- A case evaluated: its upper number before the cap, and its sheet.
pub record CaseEvaluated (setting : Setting) (codes : List ℕ) (upper : ℕ) (sheet : List ℕ) : Type 0 where
  pub is : upper ≡ upper_of setting codes
  pub low : upper < drop_limit
  pub written : sheet ≡ sheet_words (case_sheet setting codes)

-- A case bounded: its record.
pub record CaseBounded (setting : Setting) (codes : List ℕ) (cap at : ℕ) (store store' : List ℕ) : Type 0 where
  pub stored : Rewritten (record_byte codes (min cap (upper_of setting codes))) (72 * at) 72 store store'
  pub upper_low : upper_of setting codes < drop_limit

-- A case made: its record, and the best probe. A probe is the best so far where its drop reaches the threshold, which is 0 before the
-- first case and L + 1 afterwards.
pub record CaseMade (setting : Setting) (codes : List ℕ) (cap threshold at : ℕ) (store pattern : List ℕ)
    (threshold' : ℕ) (store' pattern' : List ℕ) : Type 0 where
  pub stored : Rewritten (record_byte codes (min cap (upper_of setting codes))) (72 * at) 72 store store'
  pub upper_low : upper_of setting codes < drop_limit
  pub drop_low : probe_drop setting codes < drop_limit
  pub kept : probe_drop setting codes < threshold → (threshold' ≡ threshold) × (pattern' ≡ pattern)
  pub reached : threshold ≤ probe_drop setting codes
      → (threshold' ≡ probe_drop setting codes + 1)
      × Rewritten (pattern_byte (probe (sets_in setting.inputs codes))) 0 setting.inputs pattern pattern'
