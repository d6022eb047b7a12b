-- `waveform::joining::join_before` meets its contract.
-- Assumes nothing.
use Prim.Native.Nat.{◌+◌}
use mathlib.Core.Path.{◌≡◌}
use Rattle.excitation.specs.Excitation.{levels_of}
use Rattle.excitation.specs.UncertaintySet.{decode}
use Rattle.block.specs.View.{pin_of}
use Rattle.waveform.specs.Pins.{joined_below}
use Rattle.waveform.specs.Rows.{before_in}
use Rattle.waveform.proofs.joining.join_before.Given as goal

abbrev pub invariant-loop-source : goal.invariant-loop-source
invariant-loop-source l =
    decode l.joined.code ≡ joined_below (levels_of l.by) (l.source-index + 1) (λ i. before_in l.work (pin_of l.fn.gate i))
