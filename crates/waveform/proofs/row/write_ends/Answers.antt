-- `waveform::row::write_ends` meets its contract.
-- Assumes nothing.
use Rattle.waveform.proofs.Written.{ends_written}
use Rattle.waveform.proofs.row.write_ends.Goals as goal

pub returns : goal.returns
returns c =
    rw c.start-at.ensures (ends_written c.args.net.0 c.args.before.code c.args.arrival c.args.last c.args.work.now c.requires)
