-- `cases::choice::choose` meets its contract. The loop's invariant: the scan of the rest of the list is that of the whole.
-- Assumes nothing.
use mathlib.Core.Path.{◌≡◌}
use lib.ListN.{drop}
use Rattle.excitation.specs.UncertaintySet.{sets_in}
use Rattle.cases.specs.Choice.{first_undecided}
use Rattle.cases.proofs.choice.choose.Given as goal

abbrev pub invariant-loop-k : goal.invariant-loop-k
invariant-loop-k l = first_undecided (drop l.k l.order) (sets_in l.inputs l.codes) ≡ first_undecided l.order (sets_in l.inputs l.codes)
