-- `waveform::gate::make_parts` meets its contract.
-- Assumes nothing.
use Prim.Native.Nat.{◌*◌}
use Rattle.rows.specs.Rows.{RowMade}
use Rattle.waveform.specs.Pins.{raw_at}
use Rattle.waveform.proofs.Raw.{Prior}
use Rattle.waveform.proofs.gate.make_parts.Given as goal

abbrev pub invariant-loop-part : goal.invariant-loop-part
invariant-loop-part l =
    RowMade (raw_at l.gate l.initial.work) l.net (64 * l.part) l.initial.work l.work × Prior l.gate l.initial.work l.fn.before.code l.part l.earlier
