-- `split_order::reach::cones` meets its contract. The loop's invariant: the cones of the inputs below the next are counted.
-- Assumes nothing.
use lib.ListN.{replicate}
use Rattle.laws.specs.Rewritten.{Rewritten}
use Rattle.block.specs.Block.{cone_size}
use Rattle.split_order.proofs.reach.cones.Given as goal

abbrev pub invariant-loop-net : goal.invariant-loop-net
invariant-loop-net l = Rewritten (cone_size l.file) 0 l.net (replicate 64 0) l.cones
