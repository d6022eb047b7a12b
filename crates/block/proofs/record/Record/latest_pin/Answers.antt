-- `block::record::Record::latest_pin` meets its contract. The loop's invariant: the greatest arrival of the pins passed.
-- Assumes nothing.
use mathlib.Core.Path.{◌≡◌, refl, sym, ap, ◌∙◌}
use native.Mathlib.Omega.{arith}
use lib.ListN.{get_or, take}
use lib.Seq.{get_or-take}
use borrow.Author.Rules.{rules}
use Rattle.laws.specs.Below.{max_below}
use Rattle.laws.proofs.Below.{max_next}
use Rattle.block.specs.Block.{latest_pin}
use Rattle.block.specs.View.{gate_of, pin_of}
use Rattle.block.proofs.Views.{pin_of_lem}
use Rattle.block.proofs.record.Record.latest_pin.Goals as goal

pub loop-p-init : goal.loop-p-init
unfolding max_below
loop-p-init c = (search rules, refl)

pub pin-source-requires : goal.pin-source-requires
unfolding gate_of
pin-source-requires c = search rules

pub bounds-earlier-at : goal.bounds-earlier-at
unfolding gate_of
bounds-earlier-at c =
    let p = c.loop-p.p in
    let below = c.requires.pin_below p (omega arith) in
    omega (arith, pin_of_lem c.args.self.file.now c.args.self.net.0 p (omega arith))

pub loop-p-preserved : goal.loop-p-preserved
unfolding gate_of
loop-p-preserved c =
    let l = c.loop-p in
    let below = c.requires.pin_below l.p (omega arith) in
    let source : c.pin-source.result.0 ≡ pin_of (gate_of c.args.self.file.now c.args.self.net.0) l.p =
    c.pin-source.ensures ∙ sym (pin_of_lem c.args.self.file.now c.args.self.net.0 l.p (omega arith)) in
    let here : c.from.result ≡ get_or (take c.args.self.net.0 c.args.earlier.now) (pin_of (gate_of c.args.self.file.now c.args.self.net.0) l.p) 0 =
    c.from.ensures ∙ ap (λ k. get_or c.args.earlier.now k 0) source ∙ sym (get_or-take _ c.args.earlier.now _ 0 below) in
    (omega arith, c.max-latest.ensures ∙ rw (l.invariant.1, here) (sym (max_next l.p _)))

pub returns : goal.returns
unfolding latest_pin gate_of
returns c =
    let l = c.loop-p in
    let pins = c.pin_count-pins.ensures.0 in
    let e : l.p ≡ c.pin_count-pins.result = omega arith in
    (rw (e, pins) at l.invariant.1, l.invariant.0)
