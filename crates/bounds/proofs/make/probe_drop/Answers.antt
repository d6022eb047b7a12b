-- `bounds::make::probe_drop` meets its contract.
-- Assumes nothing.
use Rattle.laws.proofs.Rewritten.{rewritten_first}
use Rattle.bounds.proofs.Making.{probe_codes, probe_simulated}
use Rattle.bounds.proofs.make.probe_drop.Goals as goal

pub evaluate_singles-currents-requires : goal.evaluate_singles-currents-requires
evaluate_singles-currents-requires c =
    (c.requires, probe_codes c.args.codes.now (rewritten_first _ _ _ _ c.probe_codes-singles.ensures))

pub returns : goal.returns
returns c =
    let coded = rewritten_first _ _ _ _ c.probe_codes-singles.ensures in
    probe_simulated c.args.setting c.args.codes.now _ coded c.evaluate_singles-currents.ensures
