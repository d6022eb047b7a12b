-- The records of a bench text, each from its line and its row (request 1).
use Rattle.std.specs.Prelude.{ℕ, ◌-◌, ◌/◌, ◌%◌, cond, List, [], ◌∷◌, ◌++◌, ltb, length, get_or, replicate}
use Rattle.block.specs.Record.{File}
use Rattle.netlist.specs.Names.{Letters, position}
use Rattle.netlist.specs.Forms.{Form, empty, input, output, gate, none, kind_named, given_by}
use Rattle.bench.specs.Checks.{row_byte}

-- An input: kind 1, no pins, and byte 18 allows all four excitations.
abbrev pub input_record : List ℕ
input_record = 1 ∷ replicate 17 0 ++ (15 ∷ 0 ∷ [])

-- The net of pin p: the record that gives its name, of those that the earlier lines give; 0 for an unused pin.
unfoldable pub pin_net : List Letters → List Letters → ℕ → ℕ
pin_net names pins p = cond (ltb p (length pins)) (position (get_or pins p []) names) 0

-- A gate: byte 0 its kind, bytes 1, 2 and 12 to 17 from the row of its kind, byte 3 its pin count, bytes 4 to 11 its four pins, the low
-- byte of each first.
unfoldable pub gate_record : List ℕ → ℕ → ℕ → (ℕ → ℕ) → List ℕ
gate_record list kind used net =
    let row = kind - 2 in
    kind ∷ row_byte list row 0 ∷ row_byte list row 1 ∷ used
    ∷ net 0 % 256 ∷ net 0 / 256 ∷ net 1 % 256 ∷ net 1 / 256 ∷ net 2 % 256 ∷ net 2 / 256 ∷ net 3 % 256 ∷ net 3 / 256
    ∷ row_byte list row 2 ∷ row_byte list row 3 ∷ row_byte list row 4 ∷ row_byte list row 5 ∷ row_byte list row 6 ∷ row_byte list row 7
    ∷ 0 ∷ 0 ∷ []

-- The record that a line gives, if any.
unfoldable pub record_of : List ℕ → List Letters → Form → List ℕ
record_of list names empty = []
record_of list names (input name) = input_record
record_of list names (output name) = []
record_of list names (gate name word pins) = gate_record list (kind_named word) (length pins) (pin_net names pins)
record_of list names none = []

-- "Records stand in line order": those of some lines, given the names of earlier ones.
unfoldable pub records_from : List ℕ → List Letters → List Form → File
records_from list names [] = []
records_from list names (form ∷ rest) = record_of list names form ++ records_from list (names ++ given_by form) rest
