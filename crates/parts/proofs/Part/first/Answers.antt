-- `parts::Part::first` meets its contract.
-- Assumes nothing.
use mathlib.Core.Path.{◌≡◌}
use borrow.Author.Rules.{rules}
use lib.Bits.{bit_and}
use Rattle.bits.proofs.Bits.{bit_and_lem}
use Rattle.parts.specs.Parts.{set_at}
use Rattle.parts.proofs.Joins.{first_sets_lem}
use Rattle.parts.proofs.Part.first.Goals as goal

pub returns : goal.returns
unfolding set_at
returns c k =
    let some = c.some-some.result in
    let l : c.map.result.l ≡ bit_and c.args.self.l some = search rules in
    let h : c.map.result.h ≡ bit_and c.args.self.h some = search rules in
    let hl : c.map.result.hl ≡ bit_and c.args.self.hl some = search rules in
    let lh : c.map.result.lh ≡ bit_and c.args.self.lh some = search rules in
    rw (l, h, hl, lh)
    (simp (bit_and_lem, c.some-some.ensures) (first_sets_lem (set_at c.args.self k) (set_at c.args.other k)))
