-- `evaluation::last_pulse_end` meets its contract.
-- Assumes nothing.
use mathlib.Core.Path.{refl}
use Rattle.block.specs.Block.{last_pulse_end}
use Rattle.evaluation.proofs.last_pulse_end.Goals as goal

pub returns : goal.returns
unfolding last_pulse_end
returns c = refl
