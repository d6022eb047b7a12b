-- The checks on the record buffer, the list of rows and the lines of a bench text, in order (request 1).
use Rattle.std.specs.Prelude.{ℕ, zero, suc, ◌+◌, ◌*◌, Bool, true, not, ◌&&◌, ◌||◌, List, [], ◌∷◌, ◌++◌, leb, eqb, get_or}
use Rattle.block.specs.Refusals.{gate_in_range}
use Rattle.block.specs.Verdict.{Check, check}
use Rattle.block.specs.declared.verdict.Reason.TheVariants.{OutOfRange, WrongBuffer, WrongLine, WrongName}
use Rattle.netlist.specs.Names.{Letters, known, all_known}
use Rattle.netlist.specs.Forms.{Form, empty, input, output, gate, none, form_right, given_by, is_gate}

-- "A record buffer below 20,480 bytes is 15, place 1; a list not of 64 bytes is 15, place 2." Both are given by their lengths.
unfoldable pub size_checks : ℕ → ℕ → List Check
size_checks list records = check WrongBuffer 1 (leb 20480 records) ∷ check WrongBuffer 2 (eqb list 64) ∷ []

-- "A list of eight rows for kinds 2 to 9 in order, each 8 bytes as bytes 1, 2 and 12 to 17 of a record": contact, delay, rise, fall, and
-- the two bytes of each peak. Byte j of row r.
abbrev pub row_byte : List ℕ → ℕ → ℕ → ℕ
row_byte list row j = get_or list (8 * row + j) 0

-- "Then a bad row is 9 with the row, from 0, as place."
unfoldable pub row_in_range : List ℕ → ℕ → Bool
row_in_range list row = gate_in_range (row_byte list row 0) (row_byte list row 1) (row_byte list row 2) (row_byte list row 3)

unfoldable pub rows_from : List ℕ → ℕ → ℕ → List Check
rows_from list row zero = []
rows_from list row (suc n) = check OutOfRange row (row_in_range list row) ∷ rows_from list (suc row) n

-- "An INPUT after a gate": `gates` says whether an earlier line is a gate.
abbrev pub in_place : Bool → Form → Bool
in_place gates empty = true
in_place gates (input name) = not gates
in_place gates (output name) = true
in_place gates (gate name word pins) = true
in_place gates none = true

-- Whether the names on a line are as they must be, given those of earlier lines: a new one for the record, known ones for the pins.
unfoldable pub names_right : List Letters → Form → Bool
names_right names empty = true
names_right names (input name) = not (known name names)
names_right names (output name) = true
names_right names (gate name word pins) = not (known name names) && all_known pins names
names_right names none = true

-- "Then by line, the line as place: one that fits no form, has a kind or pin count outside document 01's, or is an INPUT after a gate, is
-- 17; a name unknown or given twice is 18, after 17 on the same line."
unfoldable pub line_checks : ℕ → List Letters → Bool → Form → List Check
line_checks number names gates form =
    check WrongLine number (form_right form && in_place gates form) ∷ check WrongName number (names_right names form) ∷ []

-- The checks on lines from a number on, given the names of earlier lines and whether one of those is a gate.
unfoldable pub lines_from : ℕ → List Letters → Bool → List Form → List Check
lines_from number names gates [] = []
lines_from number names gates (form ∷ rest) =
    line_checks number names gates form ++ lines_from (suc number) (names ++ given_by form) (gates || is_gate form) rest
