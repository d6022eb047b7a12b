-- How the code keeps words, names and lines, and what its functions promise of them.
use Rattle.std.specs.Prelude.{ℕ, ◌+◌, ◌-◌, ◌*◌, ◌<◌, min, Bool, true, false, cond, ◌&&◌, Option, Some, None, List, [], ◌∷◌, map, reverse, ◌≡◌, leb, eqb, length, take, drop}
use Rattle.netlist.specs.declared.GateLine.{GateLine}
use Rattle.netlist.specs.declared.Line.{Line}
use Rattle.netlist.specs.declared.Line.TheVariants as line
use Rattle.netlist.specs.declared.Name.{Name}
use Rattle.netlist.specs.declared.Piece.{Piece}
use Rattle.netlist.specs.declared.places.Names.{Names}
use Rattle.netlist.specs.declared.Word.{Word}
use Rattle.netlist.specs.Lines.{lines_of, content}
use Rattle.netlist.specs.Names.{Letters, are_names, lettered}
use Rattle.netlist.specs.Forms.{Part, part, parts_of, is_end, closed, bracketed, Form, empty, input, output, gate, none, kind_named, form_right}

-- A word backwards as a number: the last letter, and 256 times the number of those before it.
unfoldable pub backwards : Letters → ℕ
backwards [] = 0
backwards (letter ∷ before) = 256 * backwards before + letter

unfoldable pub number_of : Letters → ℕ
number_of word = backwards (reverse word)

-- The number of a word of eight letters at most, 0 of a longer one. No word that is not empty has the number 0.
unfoldable pub short_number : Letters → ℕ
short_number word = cond (leb (length word) 8) (number_of word) 0

-- A name as two numbers: that of its first eight letters, and that of the next eight.
unfoldable pub name_kept : Letters → Name
name_kept word = record { first = number_of (take 8 word); second = number_of (take 8 (drop 8 word)) }

-- A word as it is read: its first sixteen letters, and how many it has, 17 standing for all that are too many.
unfoldable pub word_kept : Letters → Word
word_kept word = record { name = name_kept word; length = min (length word) 17 }

-- What is said of a word by its letters, whichever they are: of every word that is kept as this one is.
abbrev pub OfLetters : Word → (Letters → Type 0) → Type 0
OfLetters word P = (letters : Letters) → word ≡ word_kept letters → lettered letters ≡ true → P letters

-- The kind that a word names, if any.
abbrev pub kind_kept : Letters → Option ℕ
kind_kept word = cond (eqb (kind_named word) 0) None (Some (kind_named word))

-- Whether two names are the same.
abbrev pub same_name : Name → Name → Bool
same_name a b = eqb a.first b.first && eqb a.second b.second

-- No name.
abbrev pub no_name : Name
no_name = record { first = 0; second = 0 }

-- Words in brackets that a line may have: names, four at most.
unfoldable pub brackets_right : List Part → Bool
brackets_right parts = closed parts && (are_names (bracketed parts) && leb (length (bracketed parts)) 4)

-- They are kept in their order.
abbrev pub names_kept : List Letters → List Name
names_kept words = map name_kept words

unfoldable pub brackets_kept : List Part → Option (List Name)
brackets_kept parts = cond (brackets_right parts) (Some (names_kept (bracketed parts))) None

-- A gate is kept with its kind, its name and its pins.
pub record KeptGate : Type 0 where
  pub kind : ℕ
  pub name : Name
  pub pins : List Name

abbrev pub gate_kept : Letters → Letters → List Letters → KeptGate
gate_kept name word pins = record { kind = kind_named word; name = name_kept name; pins = names_kept pins }

-- A line is kept, if it passes check 17 by itself, by the record that it gives: none, an input's or a gate's.
pub data KeptLine : Type 0 where
  Nothing : KeptLine
  Input : Name → KeptLine
  Gate : KeptGate → KeptLine

abbrev pub right_kept : Form → KeptLine
right_kept empty = Nothing
right_kept (input name) = Input (name_kept name)
right_kept (output name) = Nothing
right_kept (gate name word pins) = Gate (gate_kept name word pins)
right_kept none = Nothing

unfoldable pub line_kept : Form → Option KeptLine
line_kept form = cond (form_right form) (Some (right_kept form)) None

-- The name that a line gives to a record, if any, and whether it is a gate.

abbrev pub line_name : KeptLine → Option Name
line_name Nothing = None
line_name (Input name) = Some name
line_name (Gate given) = Some given.name

abbrev pub line_is_gate : KeptLine → Bool
line_is_gate Nothing = false
line_is_gate (Input name) = false
line_is_gate (Gate given) = true

-- What stands in the code's values: names, in the places in use, a gate with these as its pins, and a line.

abbrev pub names_in : Names → List Name
names_in names = take names.used names.places

abbrev pub gate_in : GateLine → KeptGate
gate_in given = record { kind = given.kind; name = given.name; pins = names_in given.pins }

abbrev pub line_in : Line → KeptLine
line_in line.Nothing = Nothing
line_in (line.Input name) = Input name
line_in (line.Gate given) = Gate (gate_in given)

-- What a text ends with.
abbrev pub EndOf : List ℕ → List ℕ → Type 0
EndOf text rest = rest ≡ drop (length text - length rest) text

-- The first line of a text, and what is left of the text after it.
pub record FirstLine (text line rest : List ℕ) : Type 0 where
  pub is : lines_of text ≡ line ∷ lines_of rest
  pub shorter : length rest < length text

-- The first line split off: the text begins with it, and ends with what is left.
pub record LineSplit (text line rest : List ℕ) : Type 0 where
  pub first : FirstLine text line rest
  pub begins : line ≡ take (length line) text
  pub ends : EndOf text rest

-- The piece that a line starts with, read: the first part of its content, and what is left of the line after it.
pub record PieceRead (line : List ℕ) (piece : Piece) : Type 0 where
  pub letters : Letters
  pub rest : List Part
  pub is : parts_of (content line) ≡ part letters piece.mark ∷ rest
  pub word : piece.word ≡ word_kept letters
  pub proper : lettered letters ≡ true
  pub goes_on : is_end piece.mark ≡ false → rest ≡ parts_of (content piece.rest.now)

-- The piece split off: the line ends with what is left.
pub record PieceSplit (line : List ℕ) (piece : Piece) : Type 0 where
  pub read : PieceRead line piece
  pub ends : EndOf line piece.rest.now
