-- `envelope::evaluate_frame` meets its contract.
-- Assumes nothing.
use Rattle.envelope.proofs.Frame.{frame_codes, frame_evaluated}
use Rattle.envelope.proofs.evaluate_frame.Goals as goal

pub evaluate-requires : goal.evaluate-requires
evaluate-requires c = (c.requires, frame_codes c.args.setting c.frame_codes.ensures)

pub returns : goal.returns
returns c = frame_evaluated c.args.setting c.frame_codes.ensures c.evaluate.ensures
