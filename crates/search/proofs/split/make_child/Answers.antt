-- `search::split::make_child` meets its contract.
-- Assumes nothing.
use mathlib.Core.Bool.{not}
use mathlib.Core.Path.{ap}
use native.Mathlib.Omega.{arith}
use Rattle.cases.proofs.Children.{child_coded}
use Rattle.search.proofs.Children.{child_below, bounded_made, child_made}
use Rattle.search.proofs.split.make_child.Goals as goal

pub bound_case-requires : goal.bound_case-requires
bound_case-requires c =
    let few = c.args.setting.accepted.few_inputs in
    let parent = c.args.parent.now in
    let input = c.args.input.0 in
    let codes = c.child_codes-codes.ensures in (
      c.requires.0,
      rw codes (child_coded c.args.setting.inputs few parent c.told-parent input c.requires.2 c.args.e c.requires.1),
      c.requires.4,
    )

pub returns-then-known : goal.returns-then-known
returns-then-known c =
    let below = child_below c.args.setting c.args.parent.now c.args.input.0 c.args.e c.told-parent
    c.requires.2 c.child_codes-codes.ensures c.is_first_allowed-known.ensures c.requires.6 c.if-known.true in
    child_made c.contains.ensures (ap not c.if-not-contains.false) c.child_codes-codes.ensures
    (bounded_made c.bound_case.ensures below (omega (arith, c.requires.5))) c.child_made.ensures

pub make_case-threshold-requires : goal.make_case-threshold-requires
make_case-threshold-requires c =
    let few = c.args.setting.accepted.few_inputs in
    let parent = c.args.parent.now in
    let input = c.args.input.0 in
    let codes = c.child_codes-codes.ensures in (
      c.requires.0,
      rw codes (child_coded c.args.setting.inputs few parent c.told-parent input c.requires.2 c.args.e c.requires.1),
      c.requires.3,
      c.requires.4,
    )
