-- `netlist::brackets::read_names` meets its contract.
-- Assumes nothing.
use mathlib.Core.Bool.{true, false}
use mathlib.Core.List.{List, ◌∷◌}
use mathlib.Core.Logic.{◌⊎◌, inl, inr}
use mathlib.Core.Path.{◌≡◌, refl, sym, ◌∙◌}
use borrow.Author.Tests.{leb-true, leb-false}
use Rattle.netlist.specs.declared.Mark.{Mark}
use Rattle.netlist.specs.declared.Mark.TheVariants.{Equals, Open, Other, End}
use Rattle.netlist.specs.Names.{Letters}
use Rattle.netlist.specs.Forms.{Part, part, closed}
use Rattle.netlist.proofs.Parts.{of_piece}
use Rattle.netlist.proofs.Bracketed.{names_none, names_many}
use Rattle.netlist.proofs.Bracketed.{names_wrong, names_stop, names_more, names_closed}
use Rattle.netlist.proofs.brackets.read_names.Goals as goal

-- Where the mark is neither a comma nor the other bracket, the brackets are not closed.
stops : (mark : Mark) → (mark ≡ Equals) ⊎ (mark ≡ Open) ⊎ (mark ≡ Other) ⊎ (mark ≡ End) → (word : Letters) (rest : List Part)
    → closed (part word mark ∷ rest) ≡ false
unfolding closed
stops mark (inl e) word rest = rw e refl
stops mark (inr (inl e)) word rest = rw e refl
stops mark (inr (inr (inl e))) word rest = rw e refl
stops mark (inr (inr (inr e))) word rest = rw e refl

pub loop-rest-init : goal.loop-rest-init
loop-rest-init c = names_none _ _ c.new-names.ensures

pub returns-then-not-is_name : goal.returns-then-not-is_name
returns-then-not-is_name c =
    let read = c.read_piece-piece in
    names_wrong _ _ _ c.loop-rest.invariant read.result read.ensures.read
    (sym (of_piece _ read.ensures.read c.is_name.ensures) ∙ c.if-not-is_name.true)

pub loop-rest-preserved : goal.loop-rest-preserved
loop-rest-preserved c =
    let read = c.read_piece-piece in
    names_more _ _ _ c.loop-rest.invariant read.result read.ensures.read (leb-false 4 _ (sym c.is_full.ensures ∙ c.loop-rest-test.true))
    (sym (of_piece _ read.ensures.read c.is_name.ensures) ∙ c.if-not-is_name.false) c.push.ensures c.in-Comma.is

pub returns-then-ended : goal.returns-then-ended
returns-then-ended c =
    let read = c.read_piece-piece in
    names_closed _ _ _ c.loop-rest.invariant read.result read.ensures.read (leb-false 4 _ (sym c.is_full.ensures ∙ c.loop-rest-test.true))
    (sym (of_piece _ read.ensures.read c.is_name.ensures) ∙ c.if-not-is_name.false) c.push.ensures
    c.in-Close.is true (sym c.if-ended.true ∙ c.ended.ensures)

pub returns-in-Close : goal.returns-in-Close
returns-in-Close c =
    let read = c.read_piece-piece in
    names_closed _ _ _ c.loop-rest.invariant read.result read.ensures.read (leb-false 4 _ (sym c.is_full.ensures ∙ c.loop-rest-test.true))
    (sym (of_piece _ read.ensures.read c.is_name.ensures) ∙ c.if-not-is_name.false) c.push.ensures
    c.in-Close.is false (sym c.if-ended.false ∙ c.ended.ensures)

pub returns-in-Equals : goal.returns-in-Equals
returns-in-Equals c =
    let read = c.read_piece-piece in
    names_stop _ _ _ c.loop-rest.invariant read.result read.ensures.read
    (stops read.result.mark c.in-Equals.is _ _)

pub returns : goal.returns
returns c = names_many _ _ _ c.loop-rest.invariant (leb-true 4 _ (sym c.is_full.ensures ∙ c.loop-rest-test.false))
