-- `split_order::by_cone::cone_keys` meets its contract. The loop's invariant: the numbers of the nets below net are made.
-- Assumes nothing.
use Prim.Native.Nat.{◌-◌}
use mathlib.Core.List.{◌∷◌, []}
use mathlib.Core.Path.{◌≡◌, ap, ◌∙◌}
use native.Mathlib.Omega.{arith}
use lib.ListN.{length-set}
use Rattle.split_order.specs.Sorting.{four_of}
use Rattle.split_order.proofs.ByCone.{ConeKey, cones_sort}
use Rattle.split_order.proofs.Keys.{keys_next}
use Rattle.split_order.proofs.by_cone.cone_keys.Goals as goal

pub loop-net-preserved : goal.loop-net-preserved
loop-net-preserved c =
    let inv = c.loop-net.invariant in (
      length-set c.loop-net.keys c.loop-net.net c.alone.result ∙ inv.0,
      keys_next (ConeKey c.args.cones.now) _ c.loop-net.keys (omega (arith, c.requires.0, c.loop-net-test.true, inv.0))
          (ap four_of c.alone.ensures ∙ ap (λ gates. (1024 - gates) ∷ 0 ∷ 0 ∷ 0 ∷ []) c.from-narrow.ensures) inv.1,
    )

pub returns : goal.returns
returns c =
    let e : c.loop-net.net ≡ c.args.inputs = omega arith in
    cones_sort c.args.cones.now c.args.inputs c.loop-net.keys c.requires.1 (rw e at c.loop-net.invariant.1)
