-- `block::frame_codes` meets its contract. The loop's invariant: the codes before the next input's are written.
-- Assumes nothing.
use Rattle.std.proofs.Common.{ℕ, ◌<◌, ◌≡◌, get_or}
use Rattle.block.specs.Record.{allowed}
use Rattle.block.proofs.frame_codes.Given as goal

abbrev pub invariant-loop-net : goal.invariant-loop-net
invariant-loop-net l = (j : ℕ) → j < l.net → get_or l.code-items j 0 ≡ allowed l.file j
