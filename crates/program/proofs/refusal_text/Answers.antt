-- `program::refusal_text` meets its contract.
-- Assumes nothing.
use Rattle.std.proofs.Common.{rules, ap, ◌∙◌, ◌∷◌, [], ◌++◌}
use Rattle.laws.specs.Ascii.{ascii}
use Rattle.program.specs.Lines.{decimal, line}
use Rattle.program.specs.Program.{refusal_text}
use Rattle.program.proofs.Texts.{word_next, word_last}
use Rattle.program.proofs.refusal_text.Goals as goal

pub returns : goal.returns
unfolding refusal_text
returns c =
    let r = c.args.r in
    let number = decimal c.number.result in
    let place = decimal r.place in
    record {
      is =
          word_last place c.push_number-2.ensures.added
          (word_next number place [] c.push_number.ensures.added
          (word_next (ascii "refused") number (place ∷ []) c.push_word.ensures
          (ap (λ t. t ++ line (ascii "refused" ∷ number ∷ place ∷ [])) c.new-text.ensures)))
          ∙ ap (λ n. line (ascii "refused" ∷ decimal n ∷ place ∷ [])) c.number.ensures;
      fits = search rules;
    }
