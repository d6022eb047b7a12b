-- What is true of an accepted text, in the request's words: "Records stand in line order and read back as the same gates, pins as written."
use Rattle.std.specs.Prelude.{ℕ, ◌+◌, ◌-◌, ◌*◌, ◌<◌, false, List, [], ◌∷◌, ◌≡◌, length, get_or, take, Ok}
use Rattle.excitation.specs.declared.Excitation.{Excitation}
use Rattle.excitation.specs.UncertaintySet.{◌∈◌, decode}
use Rattle.block.specs.Block.{input_count}
use Rattle.block.specs.Record.{File, net_count, kind, contact, delay, pin_count, pin, rise, fall, peak_lh, peak_hl, allowed}
use Rattle.block.specs.Refusals.{counts, read_of}
use Rattle.netlist.specs.Names.{Letters, same}
use Rattle.netlist.specs.Forms.{Form, empty, input, output, gate, none, kind_named, names_of, forms_of}
use Rattle.bench.specs.Checks.{row_byte}
use Rattle.bench.specs.Bench.{BenchArguments, Benched}

-- The lines that give a record, in line order.
unfoldable pub record_lines : List Form → List Form
record_lines [] = []
record_lines (empty ∷ rest) = record_lines rest
record_lines (input name ∷ rest) = input name ∷ record_lines rest
record_lines (output name ∷ rest) = record_lines rest
record_lines (gate name word pins ∷ rest) = gate name word pins ∷ record_lines rest
record_lines (none ∷ rest) = record_lines rest

-- Contact, delay, rise, fall and peaks of a record are those of a row of the list.
pub record OfRow (list : List ℕ) (row : ℕ) (file : File) (net : ℕ) : Type 0 where
  pub contact_is : contact file net ≡ row_byte list row 0
  pub delay_is : delay file net ≡ row_byte list row 1
  pub rise_is : rise file net ≡ row_byte list row 2
  pub fall_is : fall file net ≡ row_byte list row 3
  pub peak_lh_is : peak_lh file net ≡ row_byte list row 4 + 256 * row_byte list row 5
  pub peak_hl_is : peak_hl file net ≡ row_byte list row 6 + 256 * row_byte list row 7

-- The record of an INPUT line: all four excitations are allowed.
pub record InputReadsBack (file : File) (net : ℕ) : Type 0 where
  pub kind_is : kind file net ≡ 1
  pub all_allowed : (e : Excitation) → e ∈ decode (allowed file net)

-- The record of a gate's line: its kind is the one that the word names, it has as many pins as are written, and each pin is an earlier
-- record, the one that has the name written there.
pub record GateReadsBack (list : List ℕ) (names : List Letters) (word : Letters) (pins : List Letters) (file : File)
    (net : ℕ) : Type 0 where
  pub kind_is : kind file net ≡ kind_named word
  pub as_many_pins : pin_count file net ≡ length pins
  pub pin_named : (p : ℕ) → p < length pins → get_or names (pin file net p) [] ≡ get_or pins p []
  pub pin_earlier : (p : ℕ) → p < length pins → pin file net p < net
  pub row : OfRow list (kind_named word - 2) file net

-- A record by the line that gives it.
abbrev pub LineReadsBack : List ℕ → List Letters → Form → File → ℕ → Type 0
LineReadsBack list names empty file net = ⊥
LineReadsBack list names (input name) file net = InputReadsBack file net × (get_or names net [] ≡ name)
LineReadsBack list names (output name) file net = ⊥
LineReadsBack list names (gate name word pins) file net = GateReadsBack list names word pins file net × (get_or names net [] ≡ name)
LineReadsBack list names none file net = ⊥

-- An accepted text: its records are a block that Read accepts, with as many nets as lines give records; record i reads back as line i of
-- those; names are all different.
pub record ReadsBack (given : BenchArguments) (file : File) : Type 0 where
  pub read : read_of file ≡ Ok (counts (net_count file) (input_count file))
  pub as_many : net_count file ≡ length (record_lines (forms_of given.text))
  pub line : (net : ℕ) → net < net_count file
      → LineReadsBack given.list (names_of (forms_of given.text)) (get_or (record_lines (forms_of given.text)) net none) file net
  pub different : (i j : ℕ) → i < j → j < net_count file
      → same (get_or (names_of (forms_of given.text)) i []) (get_or (names_of (forms_of given.text)) j []) ≡ false

-- The law, over the call: the first 20 × count bytes of the record buffer, as they stand at return.
abbrev pub BenchLaw : Type 0
BenchLaw =
    (given : BenchArguments) (count : ℕ) (records' : List ℕ) → Benched given (Ok count) records'
    → (count ≡ net_count (take (20 * count) records')) × ReadsBack given (take (20 * count) records')
