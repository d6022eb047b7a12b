-- `waveform::joining::join_part` meets its contract.
-- Assumes nothing.
use Prim.Native.Nat.{◌+◌, ◌-◌, ◌*◌, ◌<◌}
use mathlib.Core.Path.{◌≡◌, ap, ap₂, sym, subst, ◌∙◌}
use native.Mathlib.Omega.{arith}
use lib.ListN.{drop}
use Rattle.std.proofs.lemmas.List.{length-take, length-drop}
use Rattle.excitation.specs.UncertaintySet.{join_sets}
use Rattle.parts.specs.Parts.{numbered}
use Rattle.rows.specs.Rows.{HasRow, set_in}
use Rattle.waveform.proofs.Pins.{later_pins, joined_one, joined_next}
use Rattle.waveform.proofs.joining.join_part.Goals as goal

pub loop-source-init : goal.loop-source-init
loop-source-init c = record { at = λ k l. c.read_part-joined.ensures k l ∙ sym (joined_one _ _) }

pub read_part-next-requires : goal.read_part-next-requires
read_part-next-requires c =
    let pin = later_pins c.args.gate _ _ c.loop-source-test.true in
    let low : c.loop-source.source-index + 1 < c.args.gate.used = omega (arith, length-take (c.args.gate.used - 1) (drop 1 c.args.gate.pins)) in
    (subst (HasRow c.args.work.now) (sym pin) (c.requires.0.row (c.loop-source.source-index + 1) low), c.requires.2)

pub loop-source-preserved : goal.loop-source-preserved
loop-source-preserved c =
    let s = c.args in
    let i = c.loop-source.source-index in
    let pin = later_pins s.gate _ _ c.loop-source-test.true in
    record {
      at = λ k l. c.join_parts-joined.ensures k
          ∙ ap₂ (join_sets (numbered s.f)) (c.loop-source.invariant.at k l) (c.read_part-next.ensures k l ∙ ap (λ net. set_in s.work.now net (64 * s.part + k)) pin)
          ∙ sym (joined_next (numbered s.f) _ (i + 1) (omega arith));
    }

pub returns : goal.returns
returns c =
    let all : c.loop-source.source-index + 1 ≡ c.args.gate.used = omega (arith, c.requires.0.some, c.requires.0.few, length-take (c.args.gate.used - 1) (drop 1 c.args.gate.pins), length-drop 1 c.args.gate.pins) in
    rw all at c.loop-source.invariant
