-- `waveform::gate::hold_rest` meets its contract.
-- Assumes nothing.
use Prim.Native.Nat.{◌+◌, ◌*◌}
use Rattle.parts.specs.Parts.{set_at}
use Rattle.rows.specs.Rows.{set_in, RowMade}
use Rattle.waveform.proofs.Held.{held_after}
use Rattle.waveform.proofs.gate.hold_rest.Given as goal

abbrev pub invariant-loop-part : goal.invariant-loop-part
invariant-loop-part l =
    RowMade (held_after (64 * (l.parts + 1)) (set_in l.initial.work l.net) (set_at l.settled 63)) l.net (64 * l.part) l.initial.work l.work
