-- Rows of changes: a word is the change of a contact's current from the tick before, modulo 2 ^ 64, and the current at a tick is the sum of
-- the changes up to it. A sheet in the making holds them.
use Rattle.std.specs.Prelude.{◌≡◌, ℕ, zero, suc, ◌+◌, ◌-◌, ◌%◌, ◌<◌, ◌≤◌, cond, ◌⊎◌, List, length, ◌==◌}
use Rattle.laws.specs.Below.{sum_below}
use Rattle.block.specs.Limits.{word_limit}
use Rattle.sheet.specs.Sheet.{Sheet, sheet_in}

-- Sums and differences of words, which wrap around.

unfoldable pub wrapped_sum : ℕ → ℕ → ℕ
wrapped_sum a b = (a + b) % word_limit

unfoldable pub wrapped_difference : ℕ → ℕ → ℕ
wrapped_difference a b = (a + (word_limit - b)) % word_limit

-- The changes of a row of currents from tick to tick. At tick 0 the change is the current itself.
unfoldable pub changes_of : (ℕ → ℕ) → ℕ → ℕ
changes_of current zero = current 0
changes_of current (suc t) = wrapped_difference (current (suc t)) (current t)

-- The currents that changes give: at tick t the sum of the changes up to it.
unfoldable pub restored : (ℕ → ℕ) → ℕ → ℕ
restored changes t = sum_below (suc t) changes % word_limit

-- The sheet that words of changes give.
abbrev pub restored_in : List ℕ → Sheet
restored_in words c = restored (sheet_in words c)

-- Words of changes once a current is added to what they give at one contact.
pub record Added (contact : ℕ) (current : ℕ → ℕ) (words after : List ℕ) : Type 0 where
  pub long : length after ≡ length words
  pub at : (c t : ℕ) → c < 16 → t < 512 → restored_in after c t ≡ wrapped_sum (restored_in words c t) (cond (contact == c) (current t) 0)

-- Words of changes of which the first rows are turned into the currents that they give, at each tick before tick `stop`.
pub record RowsRestored (rows stop : ℕ) (words after : List ℕ) : Type 0 where
  pub long : length after ≡ 8192
  pub before : (c t : ℕ) → c < rows → t < stop → sheet_in after c t ≡ restored_in words c t
  pub rest : (c t : ℕ) → c < 16 → t < 512 → (rows ≤ c) ⊎ (stop ≤ t) → sheet_in after c t ≡ sheet_in words c t

-- All rows.
abbrev pub Restored : ℕ → List ℕ → List ℕ → Type 0
Restored = RowsRestored 16
