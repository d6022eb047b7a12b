-- `simulator::evaluate_pattern` meets its contract.
-- Assumes nothing.
use Rattle.simulator.proofs.Simulation.{pattern_codes, pattern_evaluated}
use Rattle.simulator.proofs.evaluate_pattern.Goals as goal

pub evaluate_singles-requires : goal.evaluate_singles-requires
evaluate_singles-requires c = (c.requires.0, pattern_codes c.pattern_codes-codes.ensures)

pub returns : goal.returns
returns c = pattern_evaluated c.args.setting c.pattern_codes-codes.ensures c.evaluate_singles.ensures
