-- `program::found_line` meets its contract.
-- Assumes nothing.
use Rattle.std.proofs.Common.{rules, ap, ◌∷◌, [], ◌++◌}
use Rattle.program.specs.Lines.{decimal, line}
use Rattle.program.specs.Program.{outcome_word}
use Rattle.program.proofs.Texts.{word_next, word_last}
use Rattle.program.proofs.found_line.Goals as goal

pub returns : goal.returns
returns c =
    let found = c.args.found in
    let word = outcome_word found.outcome in
    let upper = decimal found.upper in
    let lower = decimal found.lower in
    let splits = decimal found.splits in
    let cases = decimal found.cases in (
      word_last cases c.push_number-4.ensures.added
          (word_next splits cases [] c.push_number-3.ensures.added
          (word_next lower splits (cases ∷ []) c.push_number-2.ensures.added
          (word_next upper lower (splits ∷ cases ∷ []) c.push_number.ensures.added
          (word_next word upper (lower ∷ splits ∷ cases ∷ []) (rw c.outcome_word.ensures.0 at c.push_word.ensures)
          (ap (λ t. t ++ line (word ∷ upper ∷ lower ∷ splits ∷ cases ∷ [])) c.new-text.ensures))))),
      search rules,
    )
