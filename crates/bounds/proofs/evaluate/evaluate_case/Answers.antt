-- `bounds::evaluate::evaluate_case` meets its contract.
-- Assumes nothing.
use Rattle.bounds.proofs.Evaluating.{case_simulated, case_enveloped}
use Rattle.bounds.proofs.Making.{case_codes}
use Rattle.bounds.proofs.evaluate.evaluate_case.Goals as goal

pub evaluate_singles-simulated-requires : goal.evaluate_singles-simulated-requires
evaluate_singles-simulated-requires c = (c.requires.0, case_codes c.args.setting.accepted.few_inputs c.told-codes c.requires.1)

pub returns-then-decided : goal.returns-then-decided
returns-then-decided c =
    case_simulated c.args.setting c.is_decided-decided.ensures
    c.if-decided.true c.requires.1 c.evaluate_singles-simulated.ensures

pub evaluate-enveloped-requires : goal.evaluate-enveloped-requires
evaluate-enveloped-requires c = (c.requires.0, case_codes c.args.setting.accepted.few_inputs c.told-codes c.requires.1)

pub returns : goal.returns
returns c =
    case_enveloped c.args.setting c.is_decided-decided.ensures
    c.if-decided.false c.evaluate-enveloped.ensures
