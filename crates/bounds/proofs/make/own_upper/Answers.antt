-- `bounds::make::own_upper` meets its contract.
-- Assumes nothing.
use Rattle.bounds.proofs.Making.{case_codes, upper_simulated, upper_enveloped}
use Rattle.bounds.proofs.make.own_upper.Goals as goal

pub returns-then-decided : goal.returns-then-decided
returns-then-decided c = upper_simulated c.args.setting _ c.is_decided-decided.ensures c.if-decided.true c.requires.2 c.requires.3

pub evaluate-currents-requires : goal.evaluate-currents-requires
evaluate-currents-requires c = (c.requires.0, case_codes c.args.setting.accepted.few_inputs c.told-codes c.requires.1)

pub returns : goal.returns
returns c = upper_enveloped c.args.setting _ c.is_decided-decided.ensures c.if-decided.false c.evaluate-currents.ensures
