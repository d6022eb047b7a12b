-- `program::pattern_line` meets its contract. The loop's invariant: the words of the bytes passed are written, in at most 3 bytes each.
-- Assumes nothing.
use Rattle.std.proofs.Common.{rules, arith, length, length-append}
use Rattle.program.proofs.Patterns.{pattern_begun, pattern_next, pattern_ended}
use Rattle.program.proofs.pattern_line.Goals as goal

pub loop-net-init : goal.loop-net-init
loop-net-init c =
    let bytes = c.args.pattern.now in
    (search rules, pattern_begun (length bytes) bytes c.args.before (search rules))

pub loop-net-preserved : goal.loop-net-preserved
loop-net-preserved c =
    let bytes = c.args.pattern.now in
    let word = c.excitation_word.ensures in (
      search (rules, length-append),
      pattern_next (length bytes) bytes (search rules) c.loop-net.invariant.1 (rw word.0 at c.push_word.ensures) c.separator-end.ensures.byte,
    )

pub returns : goal.returns
returns c =
    let bytes = c.args.pattern.now in
    let loop = c.loop-net in
    record {
      is = pattern_ended (length bytes) bytes (omega arith) loop.invariant.1;
      fits = omega (arith, loop.invariant.0);
    }
