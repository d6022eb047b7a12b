-- The forms of a line, and what is right of each by itself (request 1).
use Rattle.std.specs.Prelude.{ℕ, Bool, true, false, cond, ◌&&◌, List, [], ◌∷◌, ◌++◌, map, eqb, length, get_or}
use Rattle.laws.specs.Ascii.{ascii}
use Rattle.block.specs.Kind.{kind_of, rule_of}
use Rattle.block.specs.Refusals.{within}
use Rattle.netlist.specs.declared.Mark.{Mark}
use Rattle.netlist.specs.declared.Mark.TheVariants.{Equals, Open, Comma, Close, Other, End}
use Rattle.netlist.specs.Lines.{lines_of, content}
use Rattle.netlist.specs.Names.{Letters, is_letter_or_digit, is_name, are_names, same, position}

-- A piece of a line's content: a word, letters and digits alone and perhaps none, and the mark after it.
pub record Part : Type 0 where
  pub word : Letters
  pub mark : Mark

abbrev pub part : Letters → Mark → Part
part word mark = record { word = word; mark = mark }

-- The marks `=`, `(`, `,` and `)`, and every other byte that is no letter and no digit.
unfoldable pub mark_of : ℕ → Mark
mark_of byte = cond (eqb byte 61) Equals (cond (eqb byte 40) Open (cond (eqb byte 44) Comma (cond (eqb byte 41) Close Other)))

-- A letter more at the start of the first part.
abbrev pub begun_by : ℕ → List Part → List Part
begun_by letter [] = []
begun_by letter (first ∷ rest) = part (letter ∷ first.word) first.mark ∷ rest

-- The parts of a line's content. The last one has the line's end after it.
unfoldable pub parts_of : List ℕ → List Part
parts_of [] = part [] End ∷ []
parts_of (byte ∷ rest) = cond (is_letter_or_digit byte) (begun_by byte (parts_of rest)) (part [] (mark_of byte) ∷ parts_of rest)

-- What a line says: nothing, `INPUT(name)`, `OUTPUT(name)`, `name=KIND(name,...)`, or what fits no form. `Written.antt` writes each form
-- out; by the law `one_form` a line is right exactly where what is left of it is a right form, so written.
pub data Form : Type 0 where
  empty : Form
  input : Letters → Form
  output : Letters → Form
  gate : Letters → Letters → List Letters → Form
  none : Form

-- Nothing more stands on the line.
abbrev pub is_empty : Letters → Bool
is_empty [] = true
is_empty (letter ∷ rest) = false

abbrev pub is_end : Mark → Bool
is_end End = true
is_end Equals = false
is_end Open = false
is_end Comma = false
is_end Close = false
is_end Other = false

unfoldable pub ended : List Part → Bool
ended [] = false
ended (first ∷ rest) = is_empty first.word && is_end first.mark

-- Words after an opening bracket: divided by commas, the last one closed by the other bracket, and nothing after it.
unfoldable pub closed : List Part → Bool
closed [] = false
closed (first ∷ rest) = elim first.mark [
  | Comma ↦ closed rest
  | Close ↦ ended rest
  | Equals ↦ false
  | Open ↦ false
  | Other ↦ false
  | End ↦ false
]

unfoldable pub bracketed : List Part → List Letters
bracketed [] = []
bracketed (first ∷ rest) = first.word ∷ elim first.mark [
  | Comma ↦ bracketed rest
  | Close ↦ []
  | Equals ↦ []
  | Open ↦ []
  | Other ↦ []
  | End ↦ []
]

-- `INPUT(name)` and `OUTPUT(name)`: one name in brackets.
unfoldable pub declaring : Letters → List Letters → Form
declaring word [] = none
declaring word (name ∷ []) = cond (same word (ascii "INPUT")) (input name) (cond (same word (ascii "OUTPUT")) (output name) none)
declaring word (name ∷ second ∷ rest) = none

-- The same, from what stands after the opening bracket.
unfoldable pub declared : Letters → List Part → Form
declared word parts = cond (closed parts) (declaring word (bracketed parts)) none

-- `name=KIND(name,...)`, from what stands after the first `=`.
unfoldable pub assigned : Letters → List Part → Form
assigned name [] = none
assigned name (first ∷ rest) = elim first.mark [
  | Open ↦ cond (closed rest) (gate name first.word (bracketed rest)) none
  | Equals ↦ none
  | Comma ↦ none
  | Close ↦ none
  | Other ↦ none
  | End ↦ none
]

-- The form of a line. The first mark decides: the `=` of a gate, or the bracket after INPUT or OUTPUT. A line of which nothing is left is
-- empty.
unfoldable pub form_of : List Part → Form
form_of [] = none
form_of (first ∷ rest) = elim first.mark [
  | End ↦ cond (is_empty first.word) empty none
  | Open ↦ declared first.word rest
  | Equals ↦ assigned first.word rest
  | Comma ↦ none
  | Close ↦ none
  | Other ↦ none
]

-- The form of each line of a text.
unfoldable pub line_form : List ℕ → Form
line_form line = form_of (parts_of (content line))

abbrev pub forms_of : List ℕ → List Form
forms_of text = map line_form (lines_of text)

-- "Kind words are document 01's for 2 to 9, with BUFF also meaning BUF."
abbrev pub kind_words : List Letters
kind_words =
    ascii "AND" ∷ ascii "NAND" ∷ ascii "OR" ∷ ascii "NOR" ∷ ascii "XOR" ∷ ascii "XNOR" ∷ ascii "NOT" ∷ ascii "BUF" ∷ ascii "BUFF" ∷ []

-- The kind that a word names, 0 where it names none.
unfoldable pub kind_named : Letters → ℕ
kind_named word = get_or (2 ∷ 3 ∷ 4 ∷ 5 ∷ 6 ∷ 7 ∷ 8 ∷ 9 ∷ 9 ∷ []) (position word kind_words) 0

-- Whether document 01 lets a gate of a kind have so many pins.
unfoldable pub pins_allowed : ℕ → ℕ → Bool
pins_allowed kind pins =
    let rule = rule_of (kind_of kind) in
    within rule.least rule.most pins

-- Whether a line fits a form, with names that are names, a known kind, and a pin count that document 01 allows it.
unfoldable pub form_right : Form → Bool
form_right empty = true
form_right (input name) = is_name name
form_right (output name) = is_name name
form_right (gate name word pins) = is_name name && (are_names pins && pins_allowed (kind_named word) (length pins))
form_right none = false

-- The name that a line gives to a record; INPUT lines and gates give one.
unfoldable pub given_by : Form → List Letters
given_by empty = []
given_by (input name) = name ∷ []
given_by (output name) = []
given_by (gate name word pins) = name ∷ []
given_by none = []

-- The names that lines give, in line order.
unfoldable pub names_of : List Form → List Letters
names_of [] = []
names_of (form ∷ rest) = given_by form ++ names_of rest

abbrev pub is_gate : Form → Bool
is_gate empty = false
is_gate (input name) = false
is_gate (output name) = false
is_gate (gate name word pins) = true
is_gate none = false
