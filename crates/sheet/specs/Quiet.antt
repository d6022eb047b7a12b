-- What request 3 says of the quiet tick, and what the code that finds it takes.
use Rattle.std.specs.Prelude.{◌≡◌, ℕ, ◌<◌, ◌≤◌, List, length}
use Rattle.sheet.specs.Sheet.{Sheet, sheet_in}

-- A sheet without current.
abbrev pub Empty : Sheet → Type 0
Empty sheet = (c t : ℕ) → c < 16 → t < 512 → sheet c t ≡ 0

-- The last tick at which some row of a sheet is not 0, and 0 for an empty sheet.
pub record LastFlow (sheet : Sheet) (tick : ℕ) : Type 0 where
  -- After it every row is 0.
  pub after : (c t : ℕ) → c < 16 → tick < t → t < 512 → sheet c t ≡ 0
  -- At it some row is not 0, unless the sheet is empty: a sheet all of whose rows are 0 at it is empty.
  pub at : ((c : ℕ) → c < 16 → sheet c tick ≡ 0) → Empty sheet
  -- It is 0 for an empty sheet.
  pub empty : Empty sheet → tick ≡ 0

-- Words of which each row is 0 from tick `stop` on.
pub record QuietFrom (stop : ℕ) (words : List ℕ) : Type 0 where
  pub ticks : stop ≤ 512
  pub long : length words ≡ 8192
  pub rows : (c t : ℕ) → c < 16 → stop ≤ t → t < 512 → sheet_in words c t ≡ 0
