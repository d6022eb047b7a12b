-- `current::pass::make_shapes` meets its contract.
-- Assumes nothing.
use Rattle.current.specs.declared.edge.Peak.TheVariants.{Greater, Lower}
use Rattle.current.proofs.Edges.{place_low, factored, shapes_made}
use Rattle.current.proofs.pass.make_shapes.Goals as goal

pub make_shape-requires : goal.make_shape-requires
make_shape-requires c = (
  rw c.place_of.ensures (place_low Greater),
  factored c.requires.0 Greater c.pulse_of.ensures c.factor.ensures c.factor-2.ensures,
)

pub make_shape-requires-2 : goal.make_shape-requires-2
make_shape-requires-2 c = (
  rw c.place_of-2.ensures (place_low Lower),
  factored c.requires.0 Lower c.pulse_of-2.ensures c.factor.ensures c.factor-2.ensures,
)

pub returns : goal.returns
returns c =
    let one = rw (c.pulse_of.ensures, c.place_of.ensures) at c.make_shape.ensures in
    let other = rw (c.pulse_of-2.ensures, c.place_of-2.ensures) at c.make_shape-2.ensures in
    shapes_made c.requires.0 c.requires.1 one other _ _ c.has_tick.ensures c.has_tick-2.ensures
