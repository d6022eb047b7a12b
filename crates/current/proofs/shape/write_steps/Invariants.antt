-- `current::shape::write_steps` meets its contract. The loop's invariant: the words before the kth are written.
-- Assumes nothing.
use Rattle.std.proofs.Common.{ℕ, ◌<◌, get_or}
use Rattle.current.proofs.shape.write_steps.Given as goal

abbrev pub invariant-loop-k : goal.invariant-loop-k
invariant-loop-k g l = (j : ℕ) → j < l.k → goal.F-post g l.at j (get_or l.word-items j 0)
