-- `bench::lookup::pin_nets` meets its contract. The loop's invariant: the pins passed are known and have their nets.
-- Assumes nothing.
use Rattle.bench.proofs.Pins.{PinsPassed}
use Rattle.bench.proofs.lookup.pin_nets.Given as goal

abbrev pub invariant-loop-p : goal.invariant-loop-p
invariant-loop-p l = PinsPassed l.names l.pin-items l.nets l.p
