-- `netlist::brackets::ended` meets its contract.
-- Assumes nothing.
use mathlib.Core.Bool.{false, and-true}
use mathlib.Core.Path.{◌≡◌, refl, ap, sym, ◌∙◌}
use Rattle.laws.proofs.Tests.{and_second_fails}
use Rattle.netlist.specs.declared.Mark.{Mark}
use Rattle.netlist.specs.declared.Mark.TheVariants.{Equals, Open, Comma, Close, Other, End}
use Rattle.netlist.specs.Forms.{is_empty, is_end, ended}
use Rattle.netlist.proofs.Parts.{kept_empty}
use Rattle.netlist.proofs.brackets.ended.Goals as goal

goes_on : (mark : Mark) → (mark ≡ End → ⊥) → is_end mark ≡ false
goes_on Equals h = refl
goes_on Open h = refl
goes_on Comma h = refl
goes_on Close h = refl
goes_on Other h = refl
goes_on End h = absurd (h refl)

pub returns-in_default : goal.returns-in_default
unfolding ended
returns-in_default c =
    let piece = c.read_piece-piece in
    sym
    (ap ended piece.ensures.read.is
    ∙ and_second_fails (is_empty piece.ensures.read.letters) (goes_on piece.result.mark c.in_default.not-End))

pub returns : goal.returns
unfolding ended
returns c =
    let piece = c.read_piece-piece in
    let letters = piece.ensures.read.letters in
    kept_empty letters piece.result.word piece.ensures.read.word
    ∙ sym (ap ended piece.ensures.read.is ∙ rw c.in-End.is (and-true (is_empty letters)))
