-- Words of a sheet that the code clears.
use Rattle.std.specs.Prelude.{◌≡◌, ℕ, List, length, slice_index}

-- Words with no current.
pub record Cleared (words : List ℕ) : Type 0 where
  pub long : length words ≡ 8192
  pub at : (i : ℕ) → slice_index words i ≡ 0
