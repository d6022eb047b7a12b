-- `cases::sets::is_decided` meets its contract.
-- Assumes nothing.
use Rattle.std.proofs.Common.{rules, not, ◌∙◌}
use borrow.Author.Tests.{tests}
use Rattle.std.proofs.lemmas.Iterator.{YieldsList-from_slice}
use Rattle.std.proofs.lemmas.Iterator.Search.{all_from_yields_List}
use Rattle.excitation.specs.UncertaintySet.{decode}
use Rattle.cases.specs.Case.{undecided}
use Rattle.cases.proofs.Codes.{decided_listed}
use Rattle.cases.proofs.sets.is_decided.Goals as goal

pub returns : goal.returns
returns c =
    all_from_yields_List (λ code. not (undecided (decode code))) _ _ _ c.all.ensures.ran (YieldsList-from_slice _ cc)
    (λ x b q k. search (rules, tests))
    ∙ decided_listed c.args.inputs c.args.codes.now c.requires
