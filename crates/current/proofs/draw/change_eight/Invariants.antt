-- `current::draw::change_eight` meets its contract. The loop's invariant: the words before the kth are changed.
-- Assumes nothing.
use Rattle.current.specs.Runs.{Changed}
use Rattle.current.proofs.draw.change_eight.Given as goal

abbrev pub invariant-loop-k : goal.invariant-loop-k
invariant-loop-k g l = Changed (goal.F-post g l.change) l.shapes l.place l.at l.k l.initial.words l.words
