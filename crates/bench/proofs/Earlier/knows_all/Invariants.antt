-- `bench::Earlier::knows_all` meets its contract. The loop's invariant: the pins passed are known.
-- Assumes nothing.
use lib.ListN.{take}
use Rattle.netlist.specs.Forms.{forms_of}
use Rattle.bench.proofs.KnownPins.{KnownBelow}
use Rattle.bench.proofs.Earlier.knows_all.Given as goal

abbrev pub invariant-loop-pin : goal.invariant-loop-pin
invariant-loop-pin l = KnownBelow (take l.self.lines (forms_of l.self.text.now)) l.self.names.now l.pins l.pin-index
