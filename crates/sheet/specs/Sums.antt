-- The sums by which the code takes the drop: at each tick a bound of the drop of every node, and the drop itself where it is needed.
use Rattle.std.specs.Prelude.{◌≡◌, ℕ, ◌+◌, ◌*◌, ◌/◌, ◌<◌, ◌≤◌, List, length, slice_index}
use Rattle.laws.specs.Below.{max_below, sum_below}
use Rattle.block.specs.Limits.{block_limit, drop_limit}
use Rattle.sheet.specs.Quiet.{QuietFrom}
use Rattle.sheet.specs.Sheet.{Sheet, drop_at, sheet_in}

-- The greatest resistance of a contact over the nodes.
unfoldable pub most_resistance : List ℕ → ℕ → ℕ
most_resistance table c = max_below (length table / 16) (λ node. slice_index table (16 * node + c))

-- A bound of the drop of every node at tick t: each contact's current counts with its greatest resistance.
unfoldable pub bound_at : List ℕ → Sheet → ℕ → ℕ
bound_at table sheet t = sum_below 16 (λ c. most_resistance table c * sheet c t)

-- The greatest drop of a node at tick t.
unfoldable pub tick_drop : List ℕ → Sheet → ℕ → ℕ
tick_drop table sheet t = max_below (length table / 16) (λ node. drop_at table sheet node t)

-- Words of which each row is 0 from tick `stop` on, and whose rows together are no more than all gates of a block draw.
pub record Droppable (stop : ℕ) (words : List ℕ) : Type 0 where
  pub quiet : QuietFrom stop words
  pub most : (t : ℕ) → t < 512 → sum_below 16 (λ c. sheet_in words c t) ≤ block_limit

-- A tick at which the contacts together draw no more than all gates of a block.
pub record TickFits (words : List ℕ) (t : ℕ) : Type 0 where
  pub tick : t < 512
  pub long : length words ≡ 8192
  pub most : sum_below 16 (λ c. sheet_in words c t) ≤ block_limit

-- Sums to which resistance × current is added for one contact, whose row starts at word `start`.
unfoldable pub with_contact : List ℕ → ℕ → List ℕ → ℕ → ℕ → ℕ
with_contact sums resistance words start t = slice_index sums t + resistance * slice_index words (start + t)

-- Room in the sums for one contact more: with it they are still below the limit of drops.
pub record SumsFit (sums : List ℕ) (resistance : ℕ) (words : List ℕ) (start stop : ℕ) : Type 0 where
  pub long : length sums ≡ 512
  pub sheet_long : length words ≡ 8192
  pub in_row : stop ≤ 512
  pub place : start + 512 ≤ 8192
  pub small : (t : ℕ) → t < stop → with_contact sums resistance words start t < drop_limit
