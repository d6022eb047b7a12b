-- `waveform::gate::make_parts` meets its contract.
-- Assumes nothing.
use Prim.Native.Nat.{◌<◌}
use mathlib.Core.Path.{◌≡◌}
use native.Mathlib.Omega.{arith}
use Rattle.rows.proofs.Rows.{row_none}
use Rattle.waveform.proofs.Raw.{made_here, prior_first, prior_next, prior_last, raw_next}
use Rattle.waveform.proofs.gate.make_parts.Goals as goal

pub loop-part-init : goal.loop-part-init
loop-part-init c = let s = c.args in (row_none _ _ _, prior_first s.gate s.work.now s.before.code c.held-earlier.ensures)

pub loop-part-preserved : goal.loop-part-preserved
loop-part-preserved c =
    let s = c.args in
    let ready = c.requires.0 in
    let l : c.loop-part.part < 4 = omega (arith, ready.few) in
    let here = made_here s.gate s.net s.work.now c.loop-part.part l c.loop-part.invariant.0 c.gate_part-here.ensures in (
      raw_next s.gate s.net s.work.now s.before.code c.loop-part.part ready.delay_high c.requires.2 c.loop-part.invariant.0 c.loop-part.invariant.1 here
          c.shifted-moved.ensures c.write_part.ensures,
      prior_next s.gate s.work.now s.before.code c.loop-part.part here,
    )

pub returns : goal.returns
returns c =
    let s = c.args in
    let e : c.loop-part.part ≡ s.parts = omega arith in
    (rw e at c.loop-part.invariant.0, prior_last s.gate s.work.now s.before.code s.parts c.requires.0.some (rw e at c.loop-part.invariant.1))
