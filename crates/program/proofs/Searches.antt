-- Laws of what is printed of a search: from what Read and Search promise to the text of the definition.
-- Assumes nothing.
use Rattle.std.specs.Prelude.{Result, Ok, Err}
use Rattle.block.specs.declared.verdict.Reason.TheVariants.{TooManyRecords}
use Prim.Native.Nat.{ℕ, ◌+◌, ◌≤◌, ◌<◌}
use mathlib.Core.List.{List, ◌++◌}
use mathlib.Core.Path.{◌≡◌, refl, ap, sym, subst, ◌∙◌}
use lib.Dec.{ltb}
use lib.ListN.{length, take, length-take}
use lib.Seq.{take_all}
use native.Mathlib.Omega.{arith}
use borrow.Table.Steps.{cases}
use borrow.Author.Tests.{lt-ltb, le-ltb, ltb-true, ltb-false}
use Rattle.excitation.specs.Excitation.{pattern_of}
use Rattle.excitation.specs.declared.Excitation.{Excitation}
use Rattle.block.specs.Block.{input_count}
use Rattle.block.specs.Record.{File}
use Rattle.block.specs.Refusals.{read_of}
use Rattle.block.specs.Verdict.{Check, refusal}
use Rattle.block.specs.declared.verdict.Refusal.{Refusal}
use Rattle.operation.specs.Operation.{answer_after}
use Rattle.operation.specs.declared.Found.{Found}
use Rattle.operation.proofs.Operations.{by_file}
use Rattle.cases.specs.SplitOrder.{cone_order}
use Rattle.search.specs.Search.{search_of, argument_checks, search_verdict, found_by, Searched}
use Rattle.search.proofs.Agreement.{pattern_handed}
use Rattle.arrayvec.specs.ArrayString.{ArrayString}
use Rattle.program.specs.Lines.{line, written, Printed}
use Rattle.program.specs.Program.{most_bytes, arguments_with, program_arguments, found_words, pattern_words, refusal_text, answer_text, search_text, program_text}

-- A byte more than the program takes, or no more than it takes.

pub too_long : (file : File) → most_bytes < length file → refusal_text (refusal TooManyRecords 0) ≡ program_text file
unfolding program_text
too_long file h = sym (rw (lt-ltb most_bytes (length file) h, program_text) refl)

pub not_too_long : (file : File) → length file ≤ most_bytes → search_text file ≡ program_text file
unfolding program_text
not_too_long file h = sym (rw (le-ltb most_bytes (length file) h, program_text) refl)

-- The program need not read more than one byte past those that it takes: what it prints for them is what it prints for all.
pub read_enough : (file : File) → program_text (take (most_bytes + 1) file) ≡ program_text file
read_enough file =
    cases (ltb most_bytes (length file))
    (λ e. (let h = ltb-true most_bytes (length file) e in
    let cut : most_bytes < length (take (most_bytes + 1) file) = rw (length-take (most_bytes + 1) file) (omega arith) in
    sym (too_long (take (most_bytes + 1) file) cut) ∙ too_long file h))
    (λ e. ap program_text (take_all (most_bytes + 1) file (let h = ltb-false most_bytes (length file) e in omega arith)))

-- The checks of what the program searches with, beside the file.
abbrev pub program_checks : File → ℕ → ℕ → List Check
program_checks file nets inputs =
    let given = program_arguments file in
    argument_checks nets inputs given.hops (length given.table) given.ratio given.budget given.order (length given.sheet) (length given.pattern)
    (length given.work) (length given.store)

-- What Search promises with a list that is the first maker's.
pub searched_with : (order : List ℕ) (file : File) {a : Result Found Refusal} {sheet' pattern' work' store' : List ℕ} → order ≡ cone_order file
    → Searched (arguments_with order file) a sheet' pattern' work' store' → Searched (program_arguments file) a sheet' pattern' work' store'
searched_with order file {a} {sheet'} {pattern'} {work'} {store'} is s = subst (λ list. Searched (arguments_with list file) a sheet' pattern' work' store') is s

module _ (file : File) where
  -- What Read refuses, Search refuses.
  pub read_refused : {r : Refusal} → read_of file ≡ Err r → refusal_text r ≡ search_text file
  unfolding search_text search_verdict arguments_with
  read_refused {r} told =
      by_file file (program_checks file)
      (λ v. refusal_text r ≡ answer_text (answer_after v (found_by (program_arguments file))) (search_of (program_arguments file)).state.best.pattern)
      refl told refl

  module _ {a : Result Found Refusal} {sheet' pattern' work' store' : List ℕ} (s : Searched (program_arguments file) a sheet' pattern' work' store') where
    -- Search's refusal.
    pub search_refused : {r : Refusal} → a ≡ Err r → refusal_text r ≡ search_text file
    unfolding search_text
    search_refused told = ap (λ b. answer_text b (search_of (program_arguments file)).state.best.pattern) (sym told ∙ s.answered)

    -- What Search found, and its pattern, of which the buffer has a byte for each input.
    found_text : {found : Found} → a ≡ Ok found
        → line (found_words found) ++ line (pattern_words (pattern_of (input_count file) pattern')) ≡ search_text file
    unfolding search_text arguments_with
    found_text {found} told =
        ap (λ p. line (found_words found) ++ line (pattern_words p))
        (pattern_handed (program_arguments file) found sheet' pattern' work' store' (subst (λ b. Searched (program_arguments file) b sheet' pattern' work' store') told s))
        ∙ ap (λ b. answer_text b (search_of (program_arguments file)).state.best.pattern) (sym told ∙ s.answered)

    pub search_found : {found : Found} (pattern : List Excitation) (first text : ArrayString) → a ≡ Ok found
        → pattern ≡ pattern_of (input_count file) pattern' → written first ≡ line (found_words found)
        → Printed (written first ++ line (pattern_words pattern)) text → Printed (search_text file) text
    search_found {found} pattern first text told same begun printed = record {
      is = printed.is
          ∙ ap (λ t. t ++ line (pattern_words pattern)) begun
          ∙ ap (λ p. line (found_words found) ++ line (pattern_words p)) same
          ∙ found_text told;
      fits = printed.fits;
    }
