-- The soundness of the envelope (document 01, "Search"): the promise on which everything above it rests.
use Rattle.std.specs.Prelude.{ℕ, ◌≤◌, List}
use Rattle.excitation.specs.UncertaintySet.{UncertaintySet}
use Rattle.excitation.specs.declared.Excitation.{Excitation}
use Rattle.block.specs.Block.{Choice}
use Rattle.block.specs.Record.{File}
use Rattle.sheet.specs.Sheet.{drop_of}
use Rattle.evaluation.specs.Evaluation.{simulated_sheet, envelope_sheet}

-- No pattern of a case draws more current at any contact and tick than the case's envelope, and none drops more, whatever the hop limit
-- and the table. A case is given by the sets of its inputs, and a pattern of it is a choice of one member of each.
pub record Sound (file : File) : Type 0 where
  pub draws_no_more : (hops : ℕ) {pattern : List Excitation} {sets : List UncertaintySet} → Choice pattern sets → (c t : ℕ)
      → simulated_sheet file pattern c t ≤ envelope_sheet hops file sets c t
  pub drops_no_more : (hops : ℕ) {pattern : List Excitation} {sets : List UncertaintySet} → Choice pattern sets → (table : List ℕ)
      → drop_of table (simulated_sheet file pattern) ≤ drop_of table (envelope_sheet hops file sets)
