-- `parts::Part::differing` meets its contract.
-- Assumes nothing.
use mathlib.Core.Path.{◌≡◌, sym, ◌∙◌}
use borrow.Author.Rules.{rules}
use lib.Bits.{bit_xor}
use Rattle.bits.specs.Bits.{bit_at}
use Rattle.bits.proofs.Bits.{bit_xor_lem}
use Rattle.parts.specs.Parts.{has_some, set_at}
use Rattle.parts.proofs.Delays.{differences, same_sets, no_other}
use Rattle.parts.proofs.Part.differing.Goals as goal

pub returns : goal.returns
unfolding set_at
returns c k =
    let a = c.args.self in
    let b = c.args.other in
    let l : c.zip.result.l ≡ bit_xor a.l b.l = search rules in
    let h : c.zip.result.h ≡ bit_xor a.h b.h = search rules in
    let hl : c.zip.result.hl ≡ bit_xor a.hl b.hl = search rules in
    let lh : c.zip.result.lh ≡ bit_xor a.lh b.lh = search rules in
    let e : bit_at c.some.result k ≡ has_some (differences (set_at a k) (set_at b k)) = c.some.ensures k ∙ rw (l, h, hl, lh) (simp bit_xor_lem) in
    (λ none. same_sets _ _ (sym e ∙ none), λ same. e ∙ no_other _ _ same)
