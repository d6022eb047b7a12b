-- `numbers::words::write_word` meets its contract.
-- Assumes nothing.
use Rattle.std.proofs.Common.{refl, ap, get_or, ◌∙◌}
use Rattle.numbers.proofs.Ranges.{range_written}
use Rattle.numbers.proofs.WordBytes.{byte_of_word}
use Rattle.numbers.proofs.words.write_word.Goals as goal

pub returns : goal.returns
returns c =
    let copied = c.copy_from_slice.ensures.after ∙ c.to_le_bytes.ensures in
    range_written _ c.args.at 8 c.args.bytes.now _ c.requires (rw copied refl) (λ k h. ap (λ part. get_or part k 0) copied ∙ byte_of_word c.args.word k h)
