-- `split_order::reach::write_words` meets its contract. The loop's invariant: the words of the nets below the next.
-- Assumes nothing.
use Rattle.split_order.specs.Reach.{Reached}
use Rattle.split_order.proofs.reach.write_words.Given as goal

abbrev pub invariant-loop-net : goal.invariant-loop-net
invariant-loop-net l = Reached l.file l.inputs l.net l.words
