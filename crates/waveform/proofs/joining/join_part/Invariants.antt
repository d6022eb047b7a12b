-- `waveform::joining::join_part` meets its contract.
-- Assumes nothing.
use Prim.Native.Nat.{◌+◌, ◌*◌}
use Rattle.block.specs.View.{pin_of}
use Rattle.parts.specs.Parts.{numbered}
use Rattle.rows.specs.Rows.{set_in}
use Rattle.waveform.specs.Pins.{joined_below, PartIs}
use Rattle.waveform.proofs.joining.join_part.Given as goal

abbrev pub invariant-loop-source : goal.invariant-loop-source
invariant-loop-source l =
    PartIs (λ t. joined_below (numbered l.f) (l.source-index + 1) (λ i. set_in l.work (pin_of l.fn.gate i) t)) (64 * l.part) l.joined
