-- `block::record::Record::latest_pin` meets its contract. The loop's invariant: the greatest arrival of the pins passed.
-- Assumes nothing.
use Prim.Native.Nat.{◌<◌}
use mathlib.Core.Path.{◌≡◌}
use lib.ListN.{get_or, take}
use Rattle.laws.specs.Below.{max_below}
use Rattle.block.specs.View.{gate_of, pin_of}
use Rattle.block.proofs.record.Record.latest_pin.Given as goal

abbrev pub invariant-loop-p : goal.invariant-loop-p
invariant-loop-p l = (l.latest < 256) × (l.latest ≡ max_below l.p (λ q. get_or (take l.self.net.0 l.earlier) (pin_of (gate_of l.self.file.now l.self.net.0) q) 0))
