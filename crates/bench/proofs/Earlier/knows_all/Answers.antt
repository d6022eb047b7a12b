-- `bench::Earlier::knows_all` meets its contract. The loop's invariant: the pins passed are known.
-- Assumes nothing.
use mathlib.Core.Path.{◌≡◌}
use native.Mathlib.Omega.{arith}
use lib.ListN.{length}
use Rattle.netlist.specs.Kept.{no_name}
use Rattle.bench.proofs.KnownPins.{known_below_next, pin_unknown, all_pins_known}
use Rattle.bench.proofs.Earlier.knows_all.Goals as goal

pub returns-then-not-knows : goal.returns-then-not-knows
returns-then-not-knows c =
    let l = c.loop-pin in
    pin_unknown _ _ _ l.pin-index no_name (omega arith) c.knows.ensures l.invariant c.if-not-knows.true

pub loop-pin-preserved : goal.loop-pin-preserved
loop-pin-preserved c =
    let l = c.loop-pin in
    known_below_next _ _ _ l.pin-index no_name (omega arith) c.knows.ensures l.invariant c.if-not-knows.false

pub returns : goal.returns
returns c names words held right proper same =
    let all : c.loop-pin.pin-index ≡ length c.args.pins.now = omega arith in
    let below = c.loop-pin.invariant in
    all_pins_known _ _ _ (rw all at below) names words held right proper same
