-- `block::record::Record::pins_below` meets its contract.
-- Assumes nothing.
use Rattle.std.proofs.Common.{rules, ltb, refl, ◌∙◌, arith}
use borrow.Author.Tests.{tests}
use Rattle.std.proofs.lemmas.Iterator.{YieldsList-from_range}
use Rattle.std.proofs.lemmas.Iterator.Search.{all_from_yields_List}
use Rattle.block.specs.Record.{pin}
use Rattle.block.specs.Refusals.{pins_below}
use Rattle.block.proofs.Ranges.{all_ranged}
use Rattle.block.proofs.record.Record.pins_below.Goals as goal

pub returns : goal.returns
unfolding pins_below
returns c =
    all_from_yields_List (λ p. ltb (pin c.args.self.file.now c.args.self.net.0 p) c.args.self.net.0) _ _ _ c.all.ensures.ran
    (YieldsList-from_range 0 _ c.pin_count.result refl (omega arith)) (λ x b q k. search (rules, tests))
    ∙ all_ranged c.pin_count.result _ ∙ rw c.pin_count.ensures.0 refl
