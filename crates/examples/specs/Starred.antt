-- The starred examples (document 01, "Examples, starred ones proved") as one conjunction: those of sets, runs, blocks and currents, and
-- those of the search.
use Rattle.std.specs.Prelude.{ℕ, List, [], ◌∷◌, ◌≡◌, replicate}
use Rattle.laws.specs.Ascii.{ascii}
use Rattle.excitation.specs.Excitation.{lh}
use Rattle.excitation.specs.Examples.{SetExamples}
use Rattle.block.specs.Examples.{block_s, block_f, BlockExamples}
use Rattle.block.specs.Record.{File}
use Rattle.fill.specs.Examples.{FillExamples}
use Rattle.current.specs.Examples.{table_f, CurrentExamples}
use Rattle.operation.specs.declared.Found.{Found}
use Rattle.operation.specs.declared.Outcome.{Outcome}
use Rattle.operation.specs.declared.Outcome.TheVariants.{Exact, Within, Spent}
use Rattle.cases.specs.SplitOrder.{cone_order}
use Rattle.search.specs.Search.{SearchArguments, search_of, found_by}
use Rattle.program.specs.Program.{program_text}

-- One node: 16 resistances of 1.
abbrev pub table_s : List ℕ
table_s = replicate 16 1

-- A search with a hop limit of 10 and the first maker's list, of a file with a table, a ratio and a budget. What is found does not depend
-- on the buffers lent.
abbrev pub searching : File → List ℕ → ℕ → ℕ → SearchArguments
searching file table ratio budget = record {
  file = file;
  hops = 10;
  table = table;
  ratio = ratio;
  budget = budget;
  order = cone_order file;
  sheet = [];
  pattern = [];
  work = [];
  store = [];
}

-- What a search finds: its outcome, U, L, splits, cases and quiet tick.
abbrev pub finding : Outcome → ℕ → ℕ → ℕ → ℕ → ℕ → Found
finding outcome upper lower splits cases quiet = record {
  outcome = outcome;
  upper = upper;
  lower = lower;
  splits = splits;
  cases = cases;
  quiet = quiet;
}

pub record SearchExamples : Type 0 where
  -- Block F, resistances 2, 1: ★ with no split it is no longer exact; with one it is.
  pub spent_F : found_by (searching block_f table_f 1000 0) ≡ finding Spent 67 66 0 1 4
  pub exact_F : found_by (searching block_f table_f 1000 200) ≡ finding Exact 66 66 1 4 4
  pub pattern_F : (search_of (searching block_f table_f 1000 200)).state.best.pattern ≡ lh ∷ lh ∷ []
  -- Block S, resistance 1: ★ budget 0, ratio 1,999: spent, U 20, L 10; ★ ratio 2,000: within.
  pub spent_S : found_by (searching block_s table_s 1999 0) ≡ finding Spent 20 10 0 1 1
  pub within_S : found_by (searching block_s table_s 2000 0) ≡ finding Within 20 10 0 1 1
  -- What the program finds of block S, and prints.
  pub exact_S : found_by (searching block_s table_s 1000 200) ≡ finding Exact 10 10 1 4 1
  pub pattern_S : (search_of (searching block_s table_s 1000 200)).state.best.pattern ≡ lh ∷ []
  pub program_S : program_text block_s ≡ ascii "exact 10 10 1 4\nlh\n"

-- Every starred example is a field of one of these records, marked there with its star.
pub record Starred : Type 0 where
  pub sets : SetExamples
  pub runs : FillExamples
  pub blocks : BlockExamples
  pub currents : CurrentExamples
  pub search : SearchExamples
