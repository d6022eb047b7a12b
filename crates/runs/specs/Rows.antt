-- The runs of a row of 256 bits, in four words.
use Rattle.std.specs.Prelude.{ℕ, ◌≤◌, ◌<◌, Bool, not, ◌&&◌, ◌||◌, List, ◌≡◌, leb, ltb, length}
use Rattle.laws.specs.Turn.{list_below}
use Rattle.bits.specs.Bits.{row_bit}
use Rattle.runs.specs.Runs.{Run, runs}

-- The ticks of a row, held or not, and their runs.
abbrev pub ticks_in : List ℕ → List Bool
ticks_in row = list_below 256 (row_bit row)

abbrev pub runs_in : List ℕ → List Run
runs_in row = runs (ticks_in row)

-- The first tick, not before `from`, at which a row has a level; 256 where there is none.
pub record NextAt (level : Bool) (row : List ℕ) (from next : ℕ) : Type 0 where
  pub low : from ≤ next
  pub high : next ≤ 256
  pub other : (t : ℕ) → from ≤ t → t < next → row_bit row t ≡ not level
  pub found : next < 256 → row_bit row next ≡ level

-- The row after the ticks from `from` to before `to` were set.
pub record RangeSet (from to : ℕ) (given after : List ℕ) : Type 0 where
  pub long : length after ≡ length given
  pub ticks : (t : ℕ) → t < 256 → row_bit after t ≡ (row_bit given t || (leb from t && ltb t to))
