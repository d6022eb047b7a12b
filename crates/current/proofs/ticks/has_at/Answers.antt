-- `current::ticks::has_at` meets its contract.
-- Assumes nothing.
use Rattle.std.proofs.Common.{refl}
use Rattle.bits.specs.Bits.{bit_at, row_bit}
use Rattle.current.proofs.ticks.has_at.Goals as goal

pub returns : goal.returns
unfolding bit_at row_bit
returns c = refl
