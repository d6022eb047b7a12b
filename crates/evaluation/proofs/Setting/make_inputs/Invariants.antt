-- `evaluation::Setting::make_inputs` meets its contract.
-- Assumes nothing.
use Rattle.evaluation.specs.Evaluation.{InputsMade}
use Rattle.evaluation.proofs.Setting.make_inputs.Given as goal

abbrev pub invariant-loop-net : goal.invariant-loop-net
invariant-loop-net l = InputsMade l.self.file.now l.net l.codes l.initial.work l.work
