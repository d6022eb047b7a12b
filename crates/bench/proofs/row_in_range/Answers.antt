-- `bench::row_in_range` meets its contract: the four bytes that it takes are those of the row.
-- Assumes nothing.
use Prim.Native.Nat.{◌*◌}
use mathlib.Core.Path.{refl, ◌∙◌}
use native.Mathlib.Nat.{add-zero}
use Rattle.bench.specs.Checks.{row_in_range}
use Rattle.bench.proofs.row_in_range.Goals as goal

pub returns : goal.returns
unfolding row_in_range
returns c = c.gate_in_range.ensures ∙ rw (c.from.ensures, c.from-2.ensures, c.from-3.ensures, c.from-4.ensures, add-zero (8 * c.args.row)) refl
