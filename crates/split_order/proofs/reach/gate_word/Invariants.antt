-- `split_order::reach::gate_word` meets its contract. The loop's invariant: the union of the words of the pins passed.
-- Assumes nothing.
use mathlib.Core.Path.{◌≡◌}
use lib.ListN.{get_or}
use Rattle.block.specs.View.{pin_of}
use Rattle.split_order.specs.Reach.{union_below}
use Rattle.split_order.proofs.reach.gate_word.Given as goal

abbrev pub invariant-loop-p : goal.invariant-loop-p
invariant-loop-p l = (l.word ≡ union_below l.p (λ q. get_or l.words (pin_of l.gate q) 0))
