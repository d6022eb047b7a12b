-- `bench::hand_over` meets its contract: what Read answers on the records is the verdict, and the copy is the buffer.
-- Assumes nothing.
use mathlib.Core.Path.{refl}
use lib.Seq.{take-length}
use Rattle.block.proofs.Verdicts.{handed_on}
use Rattle.bench.proofs.Handing.{read_refuses, read_counts}
use Rattle.bench.proofs.hand_over.Goals as goal

pub returns-in_err-counts : goal.returns-in_err-counts
returns-in_err-counts c = rw (handed_on c.from_residual.ensures.1 refl) (read_refuses _ _ _ c.read.ensures c.in_err-counts.was)

pub returns : goal.returns
returns c = read_counts _ _ c.read.ensures c.in_ok-counts.was (rw (c.copy_from_slice.ensures.after, take-length c.args.made.now) refl)
