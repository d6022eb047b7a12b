-- Evaluation of a block: the sheet of a pattern's simulation and of a case's envelope, and what the code makes of them.
use Rattle.std.specs.Prelude.{ℕ, ◌*◌, ◌≤◌, ◌<◌, List, ◌≡◌, length, get_or}
use Rattle.laws.specs.Below.{sum_below}
use Rattle.excitation.specs.UncertaintySet.{UncertaintySet, decode, sets_in}
use Rattle.excitation.specs.declared.Excitation.{Excitation}
use Rattle.block.specs.Block.{settling_tick, switching_tick}
use Rattle.block.specs.Limits.{block_limit, drop_limit}
use Rattle.block.specs.Record.{File}
use Rattle.sheet.specs.Changes.{restored_in}
use Rattle.sheet.specs.Sheet.{Sheet, sheet_words, drop_of, quiet_tick}
use Rattle.waveform.specs.Rows.{waveform_in, arrival_in, SettledRow}
use Rattle.waveform.specs.Waveform.{simulation, envelope, input_waveform}
use Rattle.current.specs.Current.{sheet_of}
use Rattle.operation.specs.declared.Currents.{Currents}
use Rattle.evaluation.specs.declared.Setting.{Setting}

-- The currents of a pattern's simulation.
abbrev pub simulated_sheet : File → List Excitation → Sheet
simulated_sheet = sheet_of simulation

-- The envelope of a case, given by the sets of its inputs.
abbrev pub envelope_sheet : ℕ → File → List UncertaintySet → Sheet
envelope_sheet hops = sheet_of (envelope hops)

-- A work buffer with a row for each net.
pub record HasRows (work : List ℕ) (nets : ℕ) : Type 0 where
  pub whole : 160 * nets ≤ length work
  pub numbered : nets ≤ 1024

-- Codes of sets, one for each input at least.
pub record InputCodes (inputs : ℕ) (codes : List ℕ) : Type 0 where
  pub enough : inputs ≤ length codes
  pub low : (net : ℕ) → net < inputs → get_or codes net 0 < 16

-- The buffer once the inputs' waveforms are made.
pub record InputsMade (file : File) (inputs : ℕ) (codes work after : List ℕ) : Type 0 where
  pub long : length after ≡ length work
  pub waveform : (net : ℕ) → net < inputs → (hops : ℕ) → waveform_in after net ≡ input_waveform (envelope hops) (switching_tick file net) (decode (get_or codes net 0))
  pub arrives : (net : ℕ) → net < inputs → arrival_in after net ≡ switching_tick file net
  pub settled : (net : ℕ) → net < inputs → SettledRow after net

-- What is lent to an evaluation, beside the setting and the inputs' sets: a sheet, and a work buffer with room for the rows of the nets.
pub record Evaluable (setting : Setting) (words work : List ℕ) : Type 0 where
  pub sheet_long : length words ≡ 8192
  pub rows : HasRows work setting.nets

-- The sheet of a block whose inputs have the sets of these codes.
abbrev pub sheet_for : Setting → List ℕ → Sheet
sheet_for setting codes = envelope_sheet setting.hops setting.file.now (sets_in setting.inputs codes)

-- Words of changes once every gate is drawn, and the tick after which no pulse is left. At no tick do the contacts draw more than all gates
-- may.
pub record BlockDrawn (setting : Setting) (codes : List ℕ) (settling : ℕ) (words : List ℕ) : Type 0 where
  pub long : length words ≡ 8192
  pub at : (c t : ℕ) → c < 16 → t < 512 → restored_in words c t ≡ sheet_for setting codes c t
  pub most : (t : ℕ) → t < 512 → sum_below 16 (λ c. restored_in words c t) ≤ block_limit
  pub settled : settling ≡ settling_tick setting.file.now
  pub soon : settling < 511

-- The drop and the quiet tick of a sheet.
abbrev pub currents_of : List ℕ → Sheet → Currents
currents_of table sheet = record { drop = drop_of table sheet; quiet = quiet_tick sheet }

-- What an evaluation gives: a sheet in its words, and the sheet's drop and quiet tick.
pub record Evaluated (table : List ℕ) (sheet : Sheet) (answer : Currents) (words : List ℕ) : Type 0 where
  pub answered : answer ≡ currents_of table sheet
  pub written : words ≡ sheet_words sheet
  pub low : answer.drop < drop_limit
