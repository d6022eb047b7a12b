-- `waveform::input::make_row` meets its contract.
-- Assumes nothing.
use Prim.Native.Nat.{◌+◌, ◌*◌}
use mathlib.Core.Path.{◌≡◌, ap, ◌∙◌}
use native.Mathlib.Omega.{arith}
use Rattle.excitation.specs.UncertaintySet.{decode}
use Rattle.excitation.proofs.Codes.{decode_code}
use Rattle.rows.proofs.Rows.{row_none, row_next, row_to}
use Rattle.waveform.proofs.Inputs.{chosen_at}
use Rattle.waveform.proofs.input.make_row.Goals as goal

pub loop-part-init : goal.loop-part-init
loop-part-init c = row_none _ _ _

pub loop-part-preserved : goal.loop-part-preserved
loop-part-preserved c =
    let s = c.args in
    row_next _ s.net c.loop-part.part _ c.loop-part.invariant c.write_part.ensures
    (λ k h. chosen_at s.switching (decode s.set.code) (64 * c.loop-part.part + k) (c.input_part-sets.ensures k h)
    (c.held-before.ensures k h ∙ ap decode c.held_before.ensures ∙ decode_code _)
    (c.held-here.ensures k h)
    (c.held-after.ensures k h ∙ ap decode c.held_after.ensures ∙ decode_code _))

pub returns : goal.returns
returns c = let e : 64 * c.loop-part.part ≡ 256 = omega arith in row_to _ _ _ 256 e c.loop-part.invariant
