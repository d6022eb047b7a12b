-- `bounds::draw::draw_case` meets its contract.
-- Assumes nothing.
use Rattle.cases.proofs.Records.{codes_copied}
use Rattle.bounds.proofs.Sheets.{case_drawn}
use Rattle.bounds.proofs.draw.draw_case.Goals as goal

pub evaluate_case-requires : goal.evaluate_case-requires
evaluate_case-requires c =
    let few = c.args.setting.accepted.few_inputs in
    (c.requires.0, codes_copied c.args.setting.inputs few c.args.store.now c.args.k.0 _ c.read_sets-codes.ensures c.requires.2)

pub returns : goal.returns
returns c = case_drawn c.args.setting c.args.store.now c.args.k.0 c.read_sets-codes.ensures c.evaluate_case.ensures
