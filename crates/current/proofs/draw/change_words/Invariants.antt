-- `current::draw::change_words` meets its contract. The loop's invariant: the words of the eights before the nth are changed.
-- Assumes nothing.
use Rattle.std.proofs.Common.{◌*◌}
use Rattle.current.specs.Runs.{Changed}
use Rattle.current.proofs.draw.change_words.Given as goal

abbrev pub invariant-loop-n : goal.invariant-loop-n
invariant-loop-n g l = Changed (goal.F-post g l.change) l.shapes l.place l.at (8 * l.n) l.initial.words l.words
