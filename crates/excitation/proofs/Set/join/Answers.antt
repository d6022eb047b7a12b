-- `excitation::Set::join` meets its contract.
-- Assumes nothing.
use Rattle.excitation.proofs.Lookup.{join_at_lem}
use Rattle.excitation.proofs.Set.join.Goals as goal

pub returns : goal.returns
returns c =
    rw (c.args.joins.now.right, c.start_of-start.ensures.0) (join_at_lem c.args.by c.args.self.code c.args.other.code)
