-- `block::record::Record::zero_bytes` meets its contract.
-- Assumes nothing.
use Rattle.std.proofs.Common.{rules, eqb, refl, ◌∙◌, arith}
use borrow.Author.Tests.{tests}
use Rattle.std.proofs.lemmas.Iterator.{YieldsList-from_range}
use Rattle.std.proofs.lemmas.Iterator.Search.{all_from_yields_List}
use Rattle.block.specs.Record.{byte_at}
use Rattle.block.specs.Refusals.{zero_bytes}
use Rattle.block.proofs.Ranges.{all_from}
use Rattle.block.proofs.record.Record.zero_bytes.Goals as goal

pub returns : goal.returns
unfolding zero_bytes
returns c =
    all_from_yields_List (λ i. eqb (byte_at c.args.self.file.now c.args.self.net.0 i) 0) _ _ _ c.all.ensures.ran
    (YieldsList-from_range c.args.k _ c.args.n refl (omega arith)) (λ x b q k. search (rules, tests))
    ∙ all_from c.args.k c.args.n _ _ (λ i. refl)
