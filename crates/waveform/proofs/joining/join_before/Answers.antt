-- `waveform::joining::join_before` meets its contract.
-- Assumes nothing.
use Prim.Native.Nat.{◌+◌, ◌-◌, ◌<◌}
use mathlib.Core.Path.{◌≡◌, ap, ap₂, sym, subst, ◌∙◌}
use native.Mathlib.Omega.{arith}
use lib.ListN.{drop}
use Rattle.std.proofs.lemmas.List.{length-take, length-drop}
use Rattle.excitation.specs.Excitation.{levels_of}
use Rattle.excitation.specs.UncertaintySet.{decode, join_sets}
use Rattle.excitation.proofs.Codes.{decode_code}
use Rattle.rows.specs.Rows.{HasRow}
use Rattle.waveform.specs.Rows.{before_in}
use Rattle.waveform.proofs.Pins.{later_pins, joined_one, joined_next}
use Rattle.waveform.proofs.joining.join_before.Goals as goal

pub loop-source-init : goal.loop-source-init
loop-source-init c = ap decode c.set_before-joined.ensures ∙ sym (joined_one _ _)

pub set_before-next-requires : goal.set_before-next-requires
set_before-next-requires c =
    let pin = later_pins c.args.gate _ _ c.loop-source-test.true in
    let low : c.loop-source.source-index + 1 < c.args.gate.used = omega (arith, length-take (c.args.gate.used - 1) (drop 1 c.args.gate.pins)) in
    subst (HasRow c.args.work.now) (sym pin) (c.requires.row (c.loop-source.source-index + 1) low)

pub loop-source-preserved : goal.loop-source-preserved
loop-source-preserved c =
    let s = c.args in
    let pin = later_pins s.gate _ _ c.loop-source-test.true in
    ap decode c.join-joined.ensures ∙ decode_code _
    ∙ ap₂ (join_sets (levels_of s.by)) c.loop-source.invariant (ap decode c.set_before-next.ensures ∙ ap (before_in s.work.now) pin)
    ∙ sym (joined_next (levels_of s.by) _ (c.loop-source.source-index + 1) (omega arith))

pub returns : goal.returns
returns c =
    let all : c.loop-source.source-index + 1 ≡ c.args.gate.used = omega (arith, c.requires.some, c.requires.few, length-take (c.args.gate.used - 1) (drop 1 c.args.gate.pins), length-drop 1 c.args.gate.pins) in
    rw all at c.loop-source.invariant
