-- How the forms of a line are written. A line is right where what is left of it is a right form so written, and nowhere else.
use Rattle.std.specs.Prelude.{ℕ, true, List, [], ◌∷◌, ◌++◌, ◌≡◌}
use Rattle.laws.specs.Ascii.{ascii}
use Rattle.netlist.specs.Lines.{content}
use Rattle.netlist.specs.Names.{Letters}
use Rattle.netlist.specs.Forms.{Form, empty, input, output, gate, none, line_form, form_right}

-- Names with commas between them.
unfoldable pub divided : List Letters → List ℕ
divided [] = []
divided (name ∷ []) = name
divided (name ∷ second ∷ rest) = name ++ ascii "," ++ divided (second ∷ rest)

-- `INPUT(name)`, `OUTPUT(name)` and `name=KIND(name,...)`. What fits no form is written in no one way; only right forms are spoken of.
unfoldable pub written_form : Form → List ℕ
written_form empty = []
written_form (input name) = ascii "INPUT(" ++ name ++ ascii ")"
written_form (output name) = ascii "OUTPUT(" ++ name ++ ascii ")"
written_form (gate name word pins) = name ++ ascii "=" ++ word ++ ascii "(" ++ divided pins ++ ascii ")"
written_form none = []

-- What is left of a right line is its form, written; a line of which a right form, written, is left has that form; and a right form,
-- written, is such a line.
pub record OneForm : Type 0 where
  pub written : (line : List ℕ) → form_right (line_form line) ≡ true → content line ≡ written_form (line_form line)
  pub formed : (line : List ℕ) (form : Form) → form_right form ≡ true → content line ≡ written_form form → line_form line ≡ form
  pub read_back : (form : Form) → form_right form ≡ true → line_form (written_form form) ≡ form
