-- `parts::delay::all_bits` meets its contract.
-- Assumes nothing.
use mathlib.Core.Bool.{not}
use mathlib.Core.Path.{ap, sym, ◌∙◌}
use lib.Dec.{lit<}
use Rattle.bits.proofs.Bits.{bit_not, bit_zero}
use Rattle.parts.proofs.delay.all_bits.Goals as goal

pub returns-then-set : goal.returns-then-set
returns-then-set c k h = bit_not 64 0 k (lit< tt) h ∙ ap not (bit_zero k) ∙ sym c.if-set.true

pub returns-else-set : goal.returns-else-set
returns-else-set c k h = bit_zero k ∙ sym c.if-set.false
