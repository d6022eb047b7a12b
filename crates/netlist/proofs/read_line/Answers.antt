-- `netlist::read_line` meets its contract.
-- Assumes nothing.
use mathlib.Core.Bool.{Bool, true, false, cond}
use mathlib.Core.List.{List, ◌∷◌}
use mathlib.Core.Logic.{◌⊎◌, inl, inr}
use mathlib.Core.Path.{◌≡◌, refl, sym, ap, ◌∙◌}
use Rattle.std.proofs.Common.{None}
use Rattle.std.specs.Bool.{then_some}
use Rattle.std.specs.Prelude.{option_map}
use Rattle.netlist.specs.declared.Mark.{Mark}
use Rattle.netlist.specs.declared.Mark.TheVariants.{Equals, Open, Comma, Close, Other}
use Rattle.netlist.specs.Names.{Letters}
use Rattle.netlist.specs.Forms.{Part, part, is_empty, empty, none, form_of, line_form, form_right}
use Rattle.netlist.specs.Kept.{line_kept, Nothing, line_in}
use Rattle.netlist.proofs.Parts.{of_piece, piece_parts, kept_empty}
use Rattle.netlist.proofs.Formed.{kept_where}
use Rattle.netlist.proofs.read_line.Goals as goal

-- A line that ends after its first word.
ends : (b : Bool) → then_some b Nothing ≡ line_kept (cond b empty none)
unfolding line_kept form_right
ends true = refl
ends false = refl

-- A line whose first mark is none of these fits no form.
no_form : (mark : Mark) → (mark ≡ Comma) ⊎ (mark ≡ Close) ⊎ (mark ≡ Other) → (word : Letters) (rest : List Part)
    → None ≡ line_kept (form_of (part word mark ∷ rest))
unfolding form_of line_kept form_right
no_form mark (inl e) word rest = rw e refl
no_form mark (inr (inl e)) word rest = rw e refl
no_form mark (inr (inr e)) word rest = rw e refl

pub returns-in-End : goal.returns-in-End
unfolding line_form form_of
returns-in-End c =
    let piece = c.read_piece-first in
    let letters = piece.ensures.read.letters in
    ap (option_map line_in) c.then_some.ensures ∙ kept_where _ _
    ∙ rw (
      kept_empty letters piece.result.word piece.ensures.read.word,
      piece.ensures.read.is,
      c.in-End.is,
    )
    (ends (is_empty letters))

pub returns-in-Open : goal.returns-in-Open
unfolding line_form form_of
returns-in-Open c =
    let piece = c.read_piece-first in
    let parts = piece_parts _ piece.result piece.ensures.read Open refl c.in-Open.is in
    of_piece _ piece.ensures.read c.declaration.ensures ∙ sym (ap (λ parts. line_kept (form_of parts)) parts)

pub returns-in-Equals : goal.returns-in-Equals
unfolding line_form form_of
returns-in-Equals c =
    let piece = c.read_piece-first in
    let parts = piece_parts _ piece.result piece.ensures.read Equals refl c.in-Equals.is in
    of_piece _ piece.ensures.read c.assignment.ensures ∙ sym (ap (λ parts. line_kept (form_of parts)) parts)

pub returns-in-Comma : goal.returns-in-Comma
unfolding line_form
returns-in-Comma c =
    let piece = c.read_piece-first in
    no_form piece.result.mark c.in-Comma.is piece.ensures.read.letters piece.ensures.read.rest
    ∙ sym (ap (λ parts. line_kept (form_of parts)) piece.ensures.read.is)
