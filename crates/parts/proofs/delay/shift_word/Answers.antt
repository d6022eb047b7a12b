-- `parts::delay::shift_word` meets its contract.
-- Assumes nothing.
use Rattle.bits.proofs.Bits.{bit_moved}
use Rattle.parts.proofs.delay.shift_word.Goals as goal

pub returns : goal.returns
returns c k h = bit_moved c.args.before c.args.word c.args.d k c.ranges.before.fits c.requires.0 c.requires.1 h
