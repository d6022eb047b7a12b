-- The ticks of rows of bits that were read from the work buffer.
-- Assumes nothing.
use Rattle.std.proofs.Common.{◌≡◌, ℕ, ◌<◌, ◌≤◌, false, List, ◌∙◌, arith}
use Rattle.excitation.specs.UncertaintySet.{member}
use Rattle.excitation.specs.declared.Excitation.{Excitation}
use Rattle.rows.specs.Rows.{set_in, RowRead}
use Rattle.current.specs.Edges.{TicksFrom}

-- A row as it was read has no tick too early.
pub read_from : {e : Excitation} {net : ℕ} {work row : List ℕ} → RowRead e net work row → (first : ℕ) → first ≤ 256
    → ((t : ℕ) → t < first → member e (set_in work net t) ≡ false) → TicksFrom first row
read_from read first in_time none =
    record { long = read.long; in_time = in_time; before = λ t h. read.ticks t (omega arith) ∙ none t h }
