-- `waveform::gate::last_change` meets its contract.
-- Assumes nothing.
use Prim.Native.Nat.{◌-◌, ◌*◌}
use Rattle.laws.specs.Settled.{SettledAfter}
use Rattle.rows.specs.Rows.{set_in}
use Rattle.waveform.proofs.gate.last_change.Given as goal

abbrev pub invariant-loop-part : goal.invariant-loop-part
invariant-loop-part l = SettledAfter (64 * l.part - 1) (set_in l.work l.net)
