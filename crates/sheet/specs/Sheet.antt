-- The sheet, its drop (document 01, "Levels and simulation") and its quiet tick (request 3).
use Rattle.std.specs.Prelude.{ℕ, ◌+◌, ◌*◌, ◌/◌, ◌%◌, Bool, not, List, length, ◌==◌, slice_index}
use Rattle.laws.specs.Below.{any_below, max_below, last_below, sum_below}
use Rattle.laws.specs.Turn.{list_below}

-- A sheet: the current of each contact at each tick.
abbrev pub Sheet : Type 0
Sheet = ℕ → ℕ → ℕ

-- Document 01's sheet as a buffer has it: 16 rows of 512 ticks, contact 0 first.
unfoldable pub sheet_words : Sheet → List ℕ
sheet_words sheet = list_below 8192 (λ i. sheet (i / 512) (i % 512))

-- The sheet that some words hold.
abbrev pub sheet_in : List ℕ → Sheet
sheet_in words c t = slice_index words (512 * c + t)

-- Document 01's drop, in nanovolts: the greatest over nodes and ticks of the sum of resistance × current. The table has a row of 16
-- resistances per bus node.
unfoldable pub drop_at : List ℕ → Sheet → ℕ → ℕ → ℕ
drop_at table sheet node t = sum_below 16 (λ c. slice_index table (16 * node + c) * sheet c t)

unfoldable pub drop_of : List ℕ → Sheet → ℕ
drop_of table sheet = max_below (length table / 16) (λ node. max_below 512 (λ t. drop_at table sheet node t))

-- Whether current flows at tick t: some of the 16 rows is not 0.
unfoldable pub flows_at : Sheet → ℕ → Bool
flows_at sheet t = any_below 16 (λ c. not (sheet c t == 0))

-- Request 3's quiet tick: the last tick at which some row is not 0, and 0 for an empty sheet.
unfoldable pub quiet_tick : Sheet → ℕ
quiet_tick sheet = last_below 512 (flows_at sheet)
