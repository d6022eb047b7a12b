-- `current::pass::place_of` meets its contract.
-- Assumes nothing.
use Rattle.std.proofs.Common.{refl}
use Rattle.current.specs.Edges.{place_of}
use Rattle.current.proofs.pass.place_of.Goals as goal

pub returns-in-Greater : goal.returns-in-Greater
unfolding place_of
returns-in-Greater c = rw c.in-Greater.is refl

pub returns-in-Lower : goal.returns-in-Lower
unfolding place_of
returns-in-Lower c = rw c.in-Lower.is refl
