-- `sheet::quiet::flows_at` meets its contract.
-- Assumes nothing.
use Rattle.std.proofs.Common.{rules, not, eqb, refl, ◌∙◌}
use borrow.Author.Tests.{tests}
use Rattle.std.proofs.lemmas.Iterator.{YieldsList-from_range}
use Rattle.std.proofs.lemmas.Iterator.Search.{any_from_yields_List}
use Rattle.sheet.specs.Sheet.{sheet_in}
use Rattle.sheet.proofs.QuietTick.{flows_ranged}
use Rattle.sheet.proofs.quiet.flows_at.Goals as goal

pub returns : goal.returns
returns c =
    any_from_yields_List (λ k. not (eqb (sheet_in c.args.sheet.now k c.args.t) 0)) _ _ _ c.any.ensures.ran (YieldsList-from_range 0 16 16 refl refl)
    (λ x b q k. search (rules, tests))
    ∙ flows_ranged (sheet_in c.args.sheet.now) c.args.t
