-- The choice of the input to split: by a list of inputs (request 6), and by cone (document 01, "Search"), which the list that the first
-- maker makes gives too.
use Rattle.std.specs.Prelude.{ℕ, suc, cond, List, [], ◌∷◌, length, get_or}
use Rattle.laws.specs.Below.{argmax}
use Rattle.laws.specs.Turn.{list_below}
use Rattle.excitation.specs.UncertaintySet.{UncertaintySet, empty}
use Rattle.block.specs.Block.{input_count, cone_size}
use Rattle.block.specs.Record.{File}
use Rattle.cases.specs.Case.{Case, undecided}

-- Request 6: the first undecided input of a case in the list's order, 0 where there is none.
unfoldable pub first_undecided : List ℕ → Case → ℕ
first_undecided [] case = 0
first_undecided (net ∷ rest) case = cond (undecided (get_or case net empty)) net (first_undecided rest case)

-- Document 01. How many gates stand in its fan-out cone of each input.
unfoldable pub cone_sizes : File → List ℕ
cone_sizes file = list_below (input_count file) (cone_size file)

-- The rank of an input for a split, by its set and its cone: an undecided one ranks by the gates in its cone, a decided one below all
-- of those.
unfoldable pub rank_of : UncertaintySet → ℕ → ℕ
rank_of s cone = cond (undecided s) (suc cone) 0

unfoldable pub rank : List ℕ → Case → ℕ → ℕ
rank cones case input = rank_of (get_or case input empty) (get_or cones input 0)

-- The undecided input of a case with most gates in its fan-out cone, lowest net on a tie.
unfoldable pub chosen_input : List ℕ → Case → ℕ
chosen_input cones case = argmax (length case) (rank cones case)
