-- `current::ticks::without` meets its contract.
-- Assumes nothing.
use Rattle.std.proofs.Common.{rules}
use Rattle.current.proofs.Bits.{ticks_without}
use Rattle.current.proofs.ticks.without.Goals as goal

pub returns : goal.returns
returns c =
    let made = c.from_fn.ensures.items in
    ticks_without c.fits-others made.long (λ i h. let one = made.at i 0 h in search rules)
