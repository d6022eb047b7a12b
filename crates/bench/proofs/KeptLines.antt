-- Laws of lines as they are kept: which of them are right, and what code reads off a right one.
-- Assumes nothing.
use mathlib.Core.Bool.{true, false}
use mathlib.Core.List.{List}
use mathlib.Core.Path.{◌≡◌, refl, sym, ◌∙◌}
use lib.Dec.{leb}
use lib.ListN.{length}
use borrow.Table.Steps.{cases}
use Rattle.std.proofs.Common.{Option, Some, None}
use Rattle.std.specs.Prelude.{is_some}
use Rattle.netlist.specs.Names.{Letters, is_name}
use Rattle.netlist.specs.Forms.{Form, empty, input, output, gate, none, form_right, given_by, is_gate}
use Rattle.netlist.specs.Kept.{name_kept, KeptGate, gate_kept, KeptLine, Nothing, Input, Gate, right_kept, line_kept}
use Rattle.netlist.specs.Kept.{line_name, line_is_gate}
use Rattle.netlist.specs.declared.Name.{Name}

-- A line is kept where its form is right, and as that form is.

pub line_wrong : (form : Form) {read : Option KeptLine} → read ≡ line_kept form → read ≡ None → form_right form ≡ false
unfolding line_kept
line_wrong form kept nothing =
    let is : None ≡ line_kept form = sym nothing ∙ kept in
    cases (form_right form) (λ t. let told = rw t at is in cc) (λ t. t)

pub line_right : (form : Form) {read : Option KeptLine} {line : KeptLine} → read ≡ line_kept form → read ≡ Some line
    → (form_right form ≡ true) × (line ≡ right_kept form)
unfolding line_kept
line_right form {line = line} kept some =
    let is : Some line ≡ line_kept form = sym some ∙ kept in
    cases (form_right form) (λ t. let told = rw t at is in (t, cc)) (λ t. let told = rw t at is in cc)

-- Whether a line gives a record, and whether it is a gate.

pub gives_lem : (form : Form) → is_some (line_name (right_kept form)) ≡ leb 1 (length (given_by form))
unfolding given_by
gives_lem empty = refl
gives_lem (input name) = refl
gives_lem (output name) = refl
gives_lem (gate name word pins) = refl
gives_lem none = refl

pub gate_lem : (form : Form) → line_is_gate (right_kept form) ≡ is_gate form
gate_lem empty = refl
gate_lem (input name) = refl
gate_lem (output name) = refl
gate_lem (gate name word pins) = refl
gate_lem none = refl

-- The forms of the lines that give a record.
pub data Giving : Form → Type 0 where
  by_input : (name : Letters) → Giving (input name)
  by_gate : (name word : Letters) (pins : List Letters) → Giving (gate name word pins)

-- A right line kept as an input or a gate is one.

pub input_told : (P : Form → Type 0) (form : Form) {name : Name} → form_right form ≡ true → Input name ≡ right_kept form
    → ((word : Letters) → is_name word ≡ true → name ≡ name_kept word → P (input word)) → P form
unfolding form_right
input_told P empty right e f = cc
input_told P (input word) right e f = f word right cc
input_told P (output word) right e f = cc
input_told P (gate name word pins) right e f = cc
input_told P none right e f = cc

pub gate_told : (P : Form → Type 0) (form : Form) {given : KeptGate} → form_right form ≡ true → Gate given ≡ right_kept form
    → ((name word : Letters) (pins : List Letters) → form_right (gate name word pins) ≡ true → given ≡ gate_kept name word pins
    → P (gate name word pins))
    → P form
gate_told P empty right e f = cc
gate_told P (input word) right e f = cc
gate_told P (output word) right e f = cc
gate_told P (gate name word pins) right e f = f name word pins right cc
gate_told P none right e f = cc
