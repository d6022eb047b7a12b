-- `sheet::drop::bound_ticks` meets its contract.
-- Assumes nothing.
use Rattle.laws.specs.Rewritten.{Rewritten}
use Rattle.sheet.specs.Sheet.{sheet_in}
use Rattle.sheet.specs.Sums.{most_resistance}
use Rattle.sheet.proofs.Totals.{drop_part}
use Rattle.sheet.proofs.drop.bound_ticks.Given as goal

abbrev pub invariant-loop-contact : goal.invariant-loop-contact
invariant-loop-contact l = Rewritten (drop_part (most_resistance l.table) (sheet_in l.sheet) l.contact) 0 l.stop l.initial.bounds l.bounds
