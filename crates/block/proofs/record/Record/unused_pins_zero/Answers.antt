-- `block::record::Record::unused_pins_zero` meets its contract.
-- Assumes nothing.
use Rattle.std.proofs.Common.{rules, ◌-◌, eqb, refl, ◌∙◌}
use borrow.Author.Tests.{tests}
use Rattle.std.proofs.lemmas.Iterator.{YieldsList-from_range}
use Rattle.std.proofs.lemmas.Iterator.Search.{all_from_yields_List}
use Rattle.block.specs.Record.{pin}
use Rattle.block.specs.Refusals.{unused_pins_zero}
use Rattle.block.proofs.Ranges.{all_from}
use Rattle.block.proofs.record.Record.unused_pins_zero.Goals as goal

pub returns : goal.returns
unfolding unused_pins_zero
returns c =
    let used = c.pin_count.result in
    all_from_yields_List (λ p. eqb (pin c.args.self.file.now c.args.self.net.0 p) 0) _ _ _ c.all.ensures.ran
    (YieldsList-from_range used 4 (4 - used) refl refl) (λ x b q k. search (rules, tests))
    ∙ all_from used (4 - used) _ _ (λ i. refl) ∙ rw c.pin_count.ensures.0 refl
