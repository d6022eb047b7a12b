-- `simulator::evaluate_singles` meets its contract.
-- Assumes nothing.
use native.Mathlib.Omega.{arith}
use Rattle.simulator.proofs.Simulation.{singles_evaluated}
use Rattle.simulator.proofs.evaluate_singles.Goals as goal

pub evaluate-requires : goal.evaluate-requires
evaluate-requires c = (record { sheet_long = c.requires.0.sheet_long; rows = c.requires.0.rows }, c.requires.1)

pub returns : goal.returns
returns c = singles_evaluated c.args.setting c.args.codes.now 128 (omega arith) c.evaluate.ensures
