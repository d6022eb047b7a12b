-- `bench::Table::take_input` meets its contract.
-- Assumes nothing.
use mathlib.Core.List.{◌++◌}
use mathlib.Core.Path.{refl, ap, ◌∙◌}
use Rattle.block.proofs.Verdicts.{handed_on}
use Rattle.bench.specs.Held.{made_records}
use Rattle.bench.proofs.Lookups.{placed}
use Rattle.bench.proofs.Taking.{input_refused, input_again, input_taken}
use Rattle.bench.proofs.Table.take_input.Goals as goal

pub returns-in_err-check : goal.returns-in_err-check
returns-in_err-check c = rw (handed_on c.from_residual.ensures.1 refl) (input_refused _ _ c.check.ensures c.in_err-check.was)

pub returns-in_err-check-2 : goal.returns-in_err-check-2
returns-in_err-check-2 c =
    rw (handed_on c.from_residual-in_err-check-2.ensures.1 refl)
    (input_again _ _ c.check.ensures _ c.in_ok-check.was (placed _ _ _ (rw c.held.ensures at c.position.ensures)) c.is_none-new.ensures c.check-2.ensures c.in_err-check-2.was)

pub returns : goal.returns
returns c =
    input_taken _ _ c.check.ensures _ c.in_ok-check.was (placed _ _ _ (rw c.held.ensures at c.position.ensures)) c.is_none-new.ensures c.check-2.ensures c.in_ok-check-2.was
    (record {
      names = c.add.ensures.names;
      made = c.add.ensures.records ∙ ap (λ bytes. made_records c.args.self.now ++ bytes) c.input_record.ensures;
    })
    c.add.ensures.gates
