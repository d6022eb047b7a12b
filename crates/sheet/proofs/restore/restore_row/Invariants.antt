-- `sheet::restore::restore_row` meets its contract.
-- Assumes nothing.
use Rattle.std.proofs.Common.{◌≡◌, ◌+◌, ◌%◌, get_or}
use Rattle.laws.specs.Below.{sum_below}
use Rattle.laws.specs.Rewritten.{Rewritten}
use Rattle.block.specs.Limits.{word_limit}
use Rattle.sheet.specs.Changes.{restored}
use Rattle.sheet.proofs.restore.restore_row.Given as goal

abbrev pub invariant-loop-t : goal.invariant-loop-t
invariant-loop-t l =
    (l.current ≡ sum_below l.t (λ k. get_or l.initial.sheet (l.start + k) 0) % word_limit)
    × Rewritten (restored (λ k. get_or l.initial.sheet (l.start + k) 0)) l.start l.t l.initial.sheet l.sheet
