-- `waveform::input::make_row` meets its contract.
-- Assumes nothing.
use Prim.Native.Nat.{◌*◌}
use Rattle.excitation.specs.UncertaintySet.{decode}
use Rattle.rows.specs.Rows.{RowMade}
use Rattle.waveform.specs.Rows.{input_at}
use Rattle.waveform.proofs.input.make_row.Given as goal

abbrev pub invariant-loop-part : goal.invariant-loop-part
invariant-loop-part l = RowMade (input_at l.switching (decode l.fn.set.code)) l.net (64 * l.part) l.initial.work l.work
