-- `waveform::gate::gate_waveform` meets its contract.
-- Assumes nothing.
use Prim.Native.Nat.{◌+◌}
use mathlib.Core.Path.{ap}
use native.Mathlib.Omega.{arith}
use Rattle.rows.proofs.Rows.{row_room}
use Rattle.waveform.proofs.Made.{in_time, row_ready, row_settled, row_end, gate_made}
use Rattle.waveform.proofs.Written.{filled_room}
use Rattle.waveform.proofs.gate.gate_waveform.Goals as goal

pub make_row-settled-requires : goal.make_row-settled-requires
make_row-settled-requires c =
    (row_ready c.args.net.0 c.args.gate c.args.work.now c.requires.0 _ _ c.latest_pin-latest.ensures.0 c.latest_pin-latest.ensures.1, c.of-function.ensures, c.gate_before-before.ensures)

pub fill-requires : goal.fill-requires
fill-requires c =
    let latest = c.latest_pin-latest.ensures in
    let row = c.make_row-settled.ensures.0 in
    let soon = in_time c.args.net.0 c.args.gate c.args.work.now c.requires.0 _ _ latest.0 latest.1 in (
      row_room _ _ _ row _ c.requires.0.room,
      c.requires.1,
      omega (arith, soon.0, soon.1),
      row_settled c.args.net.0 c.args.gate c.args.work.now c.requires.0 _ _ latest.0 latest.1 _ row,
    )

pub last_change-last-requires : goal.last_change-last-requires
last_change-last-requires c =
    let latest = c.latest_pin-latest.ensures in
    let soon = in_time c.args.net.0 c.args.gate c.args.work.now c.requires.0 _ _ latest.0 latest.1 in
    let row = c.make_row-settled.ensures in (
      filled_room c.fill.ensures (row_room _ _ _ row.0 _ c.requires.0.room),
      c.fill.ensures.settled,
      soon.0,
      soon.1,
      row_end c.args.net.0 c.args.gate c.args.work.now c.requires.0 _ _ latest.0 latest.1 _ _ row.0 c.fill.ensures row.1,
    )

pub returns : goal.returns
returns c =
    let arrival = ap (λ x. x + c.args.gate.delay) c.latest_pin-latest.ensures.0 in
    gate_made c.args.hops c.args.net.0 c.args.gate c.args.work.now c.requires.0 _ _ _ _ _ _ _
    c.gate_before-before.ensures c.make_row-settled.ensures.0 c.fill.ensures arrival c.last_change-last.ensures
    c.write_ends.ensures
