-- `waveform::input::input_waveform` meets its contract.
-- Assumes nothing.
use Rattle.excitation.specs.UncertaintySet.{code, decode, held_before_set}
use Rattle.rows.specs.Rows.{RowMade}
use Rattle.waveform.specs.Rows.{input_at, EndsWritten}
use Rattle.waveform.proofs.Inputs.{input_made}
use Rattle.waveform.proofs.input.input_waveform.Goals as goal

pub returns : goal.returns
returns c =
    let s = c.args in
    let row : RowMade (input_at s.switching (decode s.code)) s.net.0 256 s.work.now c.make_row.new.work = rw c.from.ensures at c.make_row.ensures in
    let first = c.held_before.ensures in
    let ends : EndsWritten s.net.0 (code (held_before_set (decode s.code))) s.switching s.switching c.make_row.new.work c.write_ends.new.work = rw first at c.write_ends.ensures in
    input_made s.net.0 s.switching s.code s.work.now c.make_row.new.work _ row ends
