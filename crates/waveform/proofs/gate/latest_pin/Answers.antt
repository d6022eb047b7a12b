-- `waveform::gate::latest_pin` meets its contract.
-- Assumes nothing.
use mathlib.Core.Path.{◌≡◌, ap, refl, sym, ◌∙◌}
use native.Mathlib.Omega.{arith}
use Rattle.std.proofs.lemmas.List.{length-take}
use Rattle.laws.specs.Below.{max_below}
use Rattle.laws.proofs.Below.{max_next}
use Rattle.waveform.specs.Rows.{arrival_in, last_in, latest_in, pins_last_in}
use Rattle.waveform.proofs.Pins.{first_pins}
use Rattle.waveform.proofs.gate.latest_pin.Goals as goal

pub loop-source-init : goal.loop-source-init
unfolding max_below
loop-source-init c = (omega arith, omega arith, refl, refl)

pub loop-source-preserved : goal.loop-source-preserved
loop-source-preserved c =
    let l = c.loop-source in
    let pin = first_pins c.args.gate _ _ c.loop-source-test.true in
    let arrival = c.arrival.ensures.0 ∙ ap (arrival_in c.args.work.now) pin in
    let last = c.last.ensures.0 ∙ ap (last_in c.args.work.now) pin in (
      omega (arith, c.max-arrival.ensures, c.arrival.ensures.1),
      omega (arith, c.max-last.ensures, c.last.ensures.1),
      c.max-arrival.ensures ∙ rw (l.invariant.2, arrival) (sym (max_next l.source-index _)),
      c.max-last.ensures ∙ rw (l.invariant.3, last) (sym (max_next l.source-index _)),
    )

pub returns : goal.returns
unfolding latest_in pins_last_in
returns c =
    let l = c.loop-source in
    let all : l.source-index ≡ c.args.gate.used = omega (arith, c.requires.few, length-take c.args.gate.used c.args.gate.pins) in
    (rw all at l.invariant.2, rw all at l.invariant.3, l.invariant.0, l.invariant.1)
