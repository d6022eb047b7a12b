-- What the makers' lists are to the search (request 6), over the calls: Search takes the list of either maker, and with the first maker's
-- it is the search of document 01, which splits the undecided input with most gates in its fan-out cone, lowest net on a tie.
use Rattle.std.specs.Prelude.{ℕ, true, List, ◌≡◌, take}
use Rattle.block.specs.Block.{frame, input_count}
use Rattle.block.specs.Record.{File}
use Rattle.operation.specs.SplitOrder.{names_each}
use Rattle.cases.specs.Choice.{cone_sizes, chosen_input}
use Rattle.cases.specs.Search.{search}
use Rattle.bounds.specs.Bounds.{simulated_drop, envelope_drop}
use Rattle.split_order.specs.SplitOrder.{BoundOrderArguments}
use Rattle.search.specs.Search.{SearchArguments, search_of}
use Rattle.zimgurav.specs.Accepted.{refused_with}
use Rattle.zimgurav.specs.Calls.{ConeOrderCalled, BoundOrderCalled}

-- The list in the array that a maker was lent: as many bytes as there are inputs.
abbrev pub list_in : File → List ℕ → List ℕ
list_in file order = take (input_count file) order

-- What holds of every accepted call of a maker.
pub record MakersServe : Type 0 where
  -- Check 19 lets the list of either maker pass.
  pub cone_passes : (file : File) (order order' numbers : List ℕ) → ConeOrderCalled file order order' numbers → refused_with numbers ≡ 0
      → names_each (input_count file) (list_in file order') ≡ true
  pub bound_passes : (given : BoundOrderArguments) (order work' order' numbers : List ℕ) → BoundOrderCalled given order work' order' numbers
      → refused_with numbers ≡ 0 → names_each (input_count given.file) (list_in given.file order') ≡ true
  -- With the first maker's list the search is the one of before request 6, word for word.
  pub cone_searches : (given : SearchArguments) (order order' numbers : List ℕ) → ConeOrderCalled given.file order order' numbers → refused_with numbers ≡ 0
      → given.order ≡ list_in given.file order'
      → search_of given
      ≡ search (simulated_drop given.file given.table) (envelope_drop given.file given.hops given.table)
      (chosen_input (cone_sizes given.file)) given.ratio given.budget (frame given.file)
