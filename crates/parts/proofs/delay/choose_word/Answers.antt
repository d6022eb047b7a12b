-- `parts::delay::choose_word` meets its contract.
-- Assumes nothing.
use Rattle.parts.proofs.Delays.{chosen_bit}
use Rattle.parts.proofs.delay.choose_word.Goals as goal

pub returns : goal.returns
returns c k h = chosen_bit c.args.a c.args.b c.args.ticks k c.ranges.ticks.fits h
