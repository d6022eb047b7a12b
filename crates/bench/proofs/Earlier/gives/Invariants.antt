-- `bench::Earlier::gives` meets its contract. The loop's invariant: what is true of the lines that are left is true of all of them, as
-- none of those passed gives the name.
-- Assumes nothing.
use Prim.Native.Nat.{◌-◌}
use mathlib.Core.Bool.{Bool}
use lib.ListN.{take}
use Rattle.netlist.specs.Forms.{forms_of}
use Rattle.bench.specs.Held.{GivenIn}
use Rattle.bench.proofs.Earlier.gives.Given as goal

abbrev pub invariant-loop : goal.invariant-loop
invariant-loop l =
    (r : Bool) → GivenIn (take (l.self.lines - l.counter) (forms_of l.rest)) l.name r
    → GivenIn (take l.self.lines (forms_of l.self.text.now)) l.name r
