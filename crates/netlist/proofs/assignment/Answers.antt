-- `netlist::assignment` meets its contract.
-- Assumes nothing.
use mathlib.Core.List.{List, ◌∷◌}
use mathlib.Core.Path.{◌≡◌, refl, sym, ap, ◌∙◌}
use Rattle.std.proofs.Common.{None}
use Rattle.std.specs.Prelude.{option_map}
use Rattle.netlist.specs.declared.Mark.{Mark}
use Rattle.netlist.specs.declared.Mark.TheVariants.{Equals, Open, Comma, Close, Other, End}
use Rattle.netlist.specs.Names.{Letters}
use Rattle.netlist.specs.Forms.{Part, part, assigned, form_right}
use Rattle.netlist.specs.Kept.{word_kept, line_kept, line_in}
use Rattle.netlist.proofs.Parts.{of_piece, piece_parts}
use Rattle.netlist.proofs.Formed.{kept_where, assigned_wrong, assigned_unknown, assigned_right}
use Rattle.netlist.proofs.assignment.Goals as goal

-- What follows the `=` with another mark than the opening bracket is no gate.
no_gate : (mark : Mark) → (mark ≡ Open → ⊥) → (letters word : Letters) (rest : List Part)
    → None ≡ line_kept (assigned letters (part word mark ∷ rest))
unfolding assigned line_kept form_right
no_gate Equals h letters word rest = refl
no_gate Open h letters word rest = absurd (h refl)
no_gate Comma h letters word rest = refl
no_gate Close h letters word rest = refl
no_gate Other h letters word rest = refl
no_gate End h letters word rest = refl

pub returns-in_default : goal.returns-in_default
returns-in_default c letters e l =
    let piece = c.read_piece-piece in
    no_gate piece.result.mark c.in_default.not-Open letters piece.ensures.read.letters piece.ensures.read.rest
    ∙ ap (λ parts. line_kept (assigned letters parts)) (sym piece.ensures.read.is)

pub returns-in_err-pins : goal.returns-in_err-pins
returns-in_err-pins c letters e l =
    let piece = c.read_piece-piece in
    ap (option_map line_in) c.from_residual.ensures
    ∙ assigned_wrong letters _ _ _ (piece_parts _ piece.result piece.ensures.read Open refl c.in-Open.is)
    (rw c.in_err-pins.was at c.read_names.ensures)

pub returns-in_err-kind : goal.returns-in_err-kind
returns-in_err-kind c letters e l =
    let piece = c.read_piece-piece in
    ap (option_map line_in) c.from_residual-in_err-kind.ensures
    ∙ assigned_unknown letters _ _ _ (piece_parts _ piece.result piece.ensures.read Open refl c.in-Open.is)
    (sym c.in_err-kind.was ∙ of_piece _ piece.ensures.read c.kind.ensures)

pub returns : goal.returns
unfolding word_kept
returns c letters e l =
    let piece = c.read_piece-piece in
    ap (option_map line_in) c.then_some.ensures ∙ kept_where _ _
    ∙ rw e
    (assigned_right letters piece.ensures.read.letters _ _
    (piece_parts _ piece.result piece.ensures.read Open refl c.in-Open.is)
    (rw c.in_ok-pins.was at c.read_names.ensures) (sym c.in_ok-kind.was ∙ of_piece _ piece.ensures.read c.kind.ensures)
    (c.is_name.ensures letters e l) (rw c.len.ensures.value at c.pin_count_right.ensures))
