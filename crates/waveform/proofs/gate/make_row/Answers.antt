-- `waveform::gate::make_row` meets its contract.
-- Assumes nothing.
use Rattle.waveform.proofs.Raw.{settles_at, raw_held}
use Rattle.waveform.proofs.gate.make_row.Goals as goal

pub returns : goal.returns
returns c =
    let s = c.args in
    let made = c.make_parts-last.ensures in (
      raw_held s.gate s.net s.work.now s.parts _ c.requires.0 made.1 made.0 c.hold_rest.ensures,
      settles_at s.gate s.net s.work.now s.parts _ c.requires.0 made.1 c.settled-settled.ensures,
    )
