-- `program::pattern_line` meets its contract. The loop's invariant: the words of the bytes passed are written, in at most 3 bytes each.
-- Assumes nothing.
use Rattle.std.proofs.Common.{◌+◌, ◌*◌, ◌≤◌, ◌++◌, length}
use Rattle.excitation.specs.Excitation.{pattern_of}
use Rattle.program.specs.Lines.{line, written}
use Rattle.program.specs.Program.{pattern_words}
use Rattle.program.proofs.Texts.{WordsWritten}
use Rattle.program.proofs.pattern_line.Given as goal

abbrev pub invariant-loop-net : goal.invariant-loop-net
invariant-loop-net l =
    let before = written l.initial.text in
    let words = pattern_words (pattern_of (length l.pattern) l.pattern) in
    (length (written l.text) ≤ length before + 3 * l.net) × WordsWritten words l.net l.text (before ++ line words)
