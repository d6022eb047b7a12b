-- `waveform::gate::latest_pin` meets its contract.
-- Assumes nothing.
use Prim.Native.Nat.{◌<◌}
use mathlib.Core.Path.{◌≡◌}
use Rattle.laws.specs.Below.{max_below}
use Rattle.block.specs.View.{pin_of}
use Rattle.waveform.specs.Rows.{arrival_in, last_in}
use Rattle.waveform.proofs.gate.latest_pin.Given as goal

abbrev pub invariant-loop-source : goal.invariant-loop-source
invariant-loop-source l =
    (l.arrival < 256) × (l.last < 256) × (l.arrival ≡ max_below l.source-index (λ q. arrival_in l.work (pin_of l.fn.gate q))) × (l.last ≡ max_below l.source-index (λ q. last_in l.work (pin_of l.fn.gate q)))
