-- `split_order::reach::write_own` meets its contract.
-- Assumes nothing.
use Prim.Native.Nat.{◌^◌}
use Rattle.laws.specs.Rewritten.{Rewritten}
use Rattle.split_order.proofs.reach.write_own.Given as goal

abbrev pub invariant-loop-input : goal.invariant-loop-input
invariant-loop-input l = Rewritten (λ k. 2 ^ k) 0 l.input l.initial.words l.words
