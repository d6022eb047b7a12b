-- `current::ticks::either` meets its contract.
-- Assumes nothing.
use Rattle.std.proofs.Common.{rules}
use Rattle.current.proofs.Bits.{ticks_of_either}
use Rattle.current.proofs.ticks.either.Goals as goal

pub returns : goal.returns
returns c =
    let made = c.from_fn.ensures.items in
    ticks_of_either made.long (λ i h. let one = made.at i 0 h in search rules)
