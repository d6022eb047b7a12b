-- `bench::lookup::pin_nets` meets its contract. The loop's invariant: the pins passed are known and have their nets.
-- Assumes nothing.
use mathlib.Core.Path.{◌≡◌, ◌∙◌}
use native.Mathlib.Omega.{arith}
use lib.ListN.{length}
use Rattle.netlist.specs.Kept.{no_name}
use Rattle.bench.proofs.Lookups.{placed}
use Rattle.bench.proofs.Pins.{pins_unknown, pins_next, pins_placed}
use Rattle.bench.proofs.lookup.pin_nets.Goals as goal

pub returns-in_err-net : goal.returns-in_err-net
returns-in_err-net c names words held proper same =
    let loop = c.loop-p in
    c.from_residual.ensures
    ∙ pins_unknown c.args.names.now c.as_slice-pin-items.result.now c.as_slice-pin-items.ensures.few loop.nets loop.p (omega arith) no_name (placed _ _ _ c.position.ensures) loop.invariant
    c.in_err-net.was names words held proper (c.as_slice-pin-items.ensures.value ∙ same)

pub loop-p-preserved : goal.loop-p-preserved
loop-p-preserved c =
    let loop = c.loop-p in
    pins_next c.args.names.now c.as_slice-pin-items.result.now c.as_slice-pin-items.ensures.few loop.nets loop.p (omega arith) no_name (placed _ _ _ c.position.ensures) loop.invariant
    c.in_ok-net.net c.in_ok-net.was

pub returns : goal.returns
returns c names words held proper same =
    let loop = c.loop-p in
    let all : loop.p ≡ length c.as_slice-pin-items.result.now = omega arith in
    pins_placed c.args.names.now c.as_slice-pin-items.result.now loop.nets (rw all at loop.invariant) names words held proper (c.as_slice-pin-items.ensures.value ∙ same)
