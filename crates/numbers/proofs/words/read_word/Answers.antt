-- `numbers::words::read_word` meets its contract.
-- Assumes nothing.
use Rattle.std.proofs.Common.{arith}
use Rattle.numbers.proofs.WordBytes.{word_of_bytes}
use Rattle.numbers.proofs.words.read_word.Goals as goal

pub returns : goal.returns
returns c = omega (arith, c.from_le_bytes.ensures, word_of_bytes c.args.bytes.now c.args.at)
