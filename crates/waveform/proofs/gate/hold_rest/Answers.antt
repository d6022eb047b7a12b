-- `waveform::gate::hold_rest` meets its contract.
-- Assumes nothing.
use Prim.Native.Nat.{◌+◌, ◌*◌}
use mathlib.Core.Path.{◌≡◌, sym, ◌∙◌}
use native.Mathlib.Omega.{arith}
use Rattle.rows.proofs.Rows.{row_to}
use Rattle.waveform.proofs.Held.{held_next, rest_none, rest_first, rest_held}
use Rattle.waveform.proofs.gate.hold_rest.Goals as goal

pub returns-then-parts-gt3 : goal.returns-then-parts-gt3
returns-then-parts-gt3 c = rest_none _ _ _ _ c.args.parts 256 (omega arith)

pub loop-part-preserved : goal.loop-part-preserved
loop-part-preserved c =
    let s = c.args in
    let last = c.requires.1 in
    held_next s.net (s.parts + 1) c.loop-part.part _ (omega arith) (λ k h. last k h ∙ sym (last 63 (omega arith))) c.loop-part.invariant
    c.write_part-in-loop-part.ensures

pub returns : goal.returns
returns c =
    let s = c.args in
    let last = c.requires.1 in
    let first = rest_first s.net s.work.now s.earlier s.d s.parts _ last _ c.shifted-first.ensures c.write_part.ensures in
    let e : 64 * c.loop-part.part ≡ 256 = omega arith in
    rest_held s.net s.work.now s.earlier s.d s.parts _ last c.requires.3 (omega arith) first (row_to _ _ _ 256 e c.loop-part.invariant)
