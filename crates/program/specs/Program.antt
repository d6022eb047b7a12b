-- What the program prints (document 01, "Program"; request 6).
use Rattle.std.specs.Prelude.{Result, Ok, Err}
use Rattle.block.specs.declared.verdict.Reason.TheVariants.{TooManyRecords}
use Rattle.std.specs.Prelude.{ℕ, ◌+◌, ◌*◌, true, false, cond, List, [], ◌∷◌, ◌++◌, map, ltb, length, replicate}
use Rattle.laws.specs.Ascii.{ascii}
use Rattle.excitation.specs.declared.Excitation.{Excitation}
use Rattle.block.specs.Record.{File}
use Rattle.block.specs.Verdict.{number_of, refusal}
use Rattle.block.specs.declared.verdict.Refusal.{Refusal}
use Rattle.operation.specs.declared.Found.{Found}
use Rattle.operation.specs.declared.Outcome.{Outcome}
use Rattle.operation.specs.declared.Outcome.TheVariants.{Exact, Within, Spent}
use Rattle.cases.specs.SplitOrder.{cone_order}
use Rattle.search.specs.Search.{SearchArguments, search_of, search_answer}
use Rattle.program.specs.Lines.{decimal, line}

-- Up to 256 records of 20 bytes.
abbrev pub most_bytes : ℕ
most_bytes = 256 * 20

-- One node of 16 resistances of 1, hops 10, ratio 1,000, budget 200, and the first maker's list of inputs. The program's own buffers serve
-- 256 nets and that budget.
unfoldable pub arguments_with : List ℕ → File → SearchArguments
arguments_with order file = record {
  file = file;
  hops = 10;
  table = replicate 16 1;
  ratio = 1000;
  budget = 200;
  order = order;
  sheet = replicate 8192 0;
  pattern = replicate 64 0;
  work = replicate (160 * 256) 0;
  store = replicate (72 * (1 + 3 * 200)) 0;
}

abbrev pub program_arguments : File → SearchArguments
program_arguments file = arguments_with (cone_order file) file

-- The word of an outcome.
abbrev pub outcome_word : Outcome → List ℕ
outcome_word Exact = ascii "exact"
outcome_word Within = ascii "within"
outcome_word Spent = ascii "spent"

-- The word of an excitation.
unfoldable pub excitation_word : Excitation → List ℕ
excitation_word e = cond e.before (cond e.after (ascii "h") (ascii "hl")) (cond e.after (ascii "lh") (ascii "l"))

-- The words of the first line: outcome, U, L, splits, cases; and of the second, the pattern, one word per input.
abbrev pub found_words : Found → List (List ℕ)
found_words found =
    outcome_word found.outcome ∷ decimal found.upper ∷ decimal found.lower ∷ decimal found.splits ∷ decimal found.cases ∷ []

abbrev pub pattern_words : List Excitation → List (List ℕ)
pattern_words pattern = map excitation_word pattern

-- A refusal prints `refused`, number, place.
unfoldable pub refusal_text : Refusal → List ℕ
refusal_text r = line (ascii "refused" ∷ decimal (number_of r.reason) ∷ decimal r.place ∷ [])

-- What is printed of Search's answer and its pattern.
abbrev pub answer_text : Result Found Refusal → List Excitation → List ℕ
answer_text (Ok found) pattern = line (found_words found) ++ line (pattern_words pattern)
answer_text (Err r) pattern = refusal_text r

-- What is printed of the search of a file.
unfoldable pub search_text : File → List ℕ
search_text file =
    let given = program_arguments file in
    answer_text (search_answer given) (search_of given).state.best.pattern

-- What the program prints for the bytes of standard input. A 5,121st byte gives refusal 2, place 0, before any other check.
unfoldable pub program_text : File → List ℕ
program_text file = elim (ltb most_bytes (length file)) [ true ↦ refusal_text (refusal TooManyRecords 0) | false ↦ search_text file ]
