-- `current::pass::pass_run` meets its contract.
-- Assumes nothing.
use Rattle.std.proofs.Common.{arith}
use Rattle.current.proofs.Edges.{in_range, passed_rest, passed_run}
use Rattle.current.proofs.pass.pass_run.Goals as goal

pub returns-in_default : goal.returns-in_default
returns-in_default c = (c.requires.4, omega arith, passed_rest _ _ _ c.in_default.ensures.none)

pub draw_run-requires : goal.draw_run-requires
draw_run-requires c =
    let run = c.in-Some.run' in
    let next = c.in-Some.ensures.next in
    let some = next.some in
    let high = next.high in
    let begun = next.low in
    let late = c.requires.3 in
    let pulse = c.pulse_of.ensures in (
      c.requires.0,
      omega (arith, c.requires.1.ranges.contact_high),
      rw pulse (in_range c.requires.1 run.peak),
      rw (pulse, c.place_of.ensures) (c.requires.2.made run.peak run.first (omega arith) (next.inside run.first (omega arith) some)),
      omega arith,
      omega arith,
    )

pub returns : goal.returns
returns c =
    let next = c.in-Some.ensures.next in
    let some = next.some in
    let low = next.low in
    let drawn = rw c.pulse_of.ensures at c.draw_run.ensures in
    (omega arith, next.high, passed_run c.requires.1 c.args.ticks.now.by_peak c.requires.3 next drawn)
