-- `current::edge::peak_of` meets its contract.
-- Assumes nothing.
use Rattle.current.specs.Edges.{peak_of}
use Rattle.current.proofs.edge.peak_of.Goals as goal

pub returns-in-Greater : goal.returns-in-Greater
unfolding peak_of
returns-in-Greater c = rw c.in-Greater.is c.max.ensures

pub returns-in-Lower : goal.returns-in-Lower
unfolding peak_of
returns-in-Lower c = rw c.in-Lower.is c.min.ensures
