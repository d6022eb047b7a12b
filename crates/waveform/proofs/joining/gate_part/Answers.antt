-- `waveform::joining::gate_part` meets its contract.
-- Assumes nothing.
use mathlib.Core.Path.{refl, sym, ◌∙◌}
use Rattle.waveform.proofs.Pins.{part_joined, part_inverted}
use Rattle.waveform.proofs.joining.gate_part.Goals as goal

pub returns-then-function : goal.returns-then-function
returns-then-function c =
    let is = c.requires.1 in
    part_inverted c.args.gate _ refl c.args.work.now c.args.function.number _ is.number _ c.join_part-joined.ensures _
    c.invert.ensures
    (sym is.inverts ∙ c.if-function.true)

pub returns-else-function : goal.returns-else-function
returns-else-function c =
    let is = c.requires.1 in
    part_joined c.args.gate _ refl c.args.work.now c.args.function.number _ is.number _ c.join_part-joined.ensures
    (sym is.inverts ∙ c.if-function.false)
