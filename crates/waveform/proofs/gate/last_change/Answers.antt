-- `waveform::gate::last_change` meets its contract.
-- Assumes nothing.
use Prim.Native.Nat.{◌+◌, ◌-◌, ◌*◌, ◌<◌}
use native.Mathlib.Omega.{arith}
use Rattle.laws.specs.Settled.{SettledAfter}
use Rattle.rows.specs.Rows.{set_in}
use Rattle.waveform.proofs.Changes.{others_found, settled_later, none_other, last_other, last_soon}
use Rattle.waveform.proofs.gate.last_change.Goals as goal

pub returns-then-other-ne0 : goal.returns-then-other-ne0
returns-then-other-ne0 c =
    let part = c.loop-part.part - 1 in
    let last = (c.requires.4 (omega (arith, c.requires.3, c.if-arrival-eq255.false))).at in
    let others = others_found (set_in c.args.work.now c.args.net) part _ _ _ c.read_part.ensures last c.differing-other.ensures in
    let later : SettledAfter (64 * (part + 1) - 1) (set_in c.args.work.now c.args.net) =
    settled_later _ (64 * c.loop-part.part - 1) _ (omega (arith, c.loop-part-test.true)) c.loop-part.invariant in
    let some : 0 < c.differing-other.result = omega (arith, c.if-other-ne0.true) in
    let l : part < 4 = omega arith in
    let soon = last_soon _ part _ others some c.differing-other.type_inv _ l c.requires.1 in
    record {
      soon = omega (arith, soon, c.requires.2);
      after = last_other _ part _ others some c.differing-other.type_inv later;
      at_end = λ e. absurd (omega arith);
    }

pub loop-part-preserved : goal.loop-part-preserved
loop-part-preserved c =
    let part = c.loop-part.part - 1 in
    let last = (c.requires.4 (omega (arith, c.requires.3, c.if-arrival-eq255.false))).at in
    let others = others_found (set_in c.args.work.now c.args.net) part _ _ _ c.read_part.ensures last c.differing-other.ensures in
    let later : SettledAfter (64 * (part + 1) - 1) (set_in c.args.work.now c.args.net) =
    settled_later _ (64 * c.loop-part.part - 1) _ (omega (arith, c.loop-part-test.true)) c.loop-part.invariant in
    none_other _ part _ others c.if-other-ne0.false later
