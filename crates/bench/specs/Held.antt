-- What the code holds of a text while it goes through the lines, and what its functions promise.
use Rattle.std.specs.Prelude.{ℕ, ◌+◌, ◌*◌, ◌≤◌, ◌<◌, Bool, true, false, cond, ◌&&◌, ◌||◌, Option, Some, None, List, [], ◌∷◌, ◌++◌, map, ◌≡◌, leb, length, take, Result, Ok, Err}
use Rattle.block.specs.Refusals.{read_checks}
use Rattle.block.specs.Verdict.{verdict, Verdict, Accepted}
use Rattle.block.specs.declared.verdict.Refusal.{Refusal}
use Rattle.operation.specs.Operation.{answer_after}
use Rattle.netlist.specs.Names.{Letters, is_name, are_names, known, all_known}
use Rattle.netlist.specs.Forms.{Form, input, gate, forms_of, form_right, given_by, names_of, is_gate}
use Rattle.netlist.specs.Kept.{name_kept, gate_kept, same_name, right_kept, KeptGate, KeptLine, Nothing, Input, Gate}
use Rattle.netlist.specs.declared.Name.{Name}
use Rattle.bench.specs.declared.Earlier.{Earlier}
use Rattle.bench.specs.declared.Progress.{Progress}
use Rattle.bench.specs.declared.Table.{Table}
use Rattle.bench.specs.Checks.{line_checks, lines_from}
use Rattle.bench.specs.Records.{pin_net, record_of, records_from}

-- The names of some records, as they are kept.
pub record Held (names : List Letters) (kept : List Name) : Type 0 where
  pub proper : are_names names ≡ true
  pub is : kept ≡ map name_kept names

-- Those of the records in a table, and the records' bytes.

abbrev pub held_names : Table → List Name
held_names table = take table.count table.names

abbrev pub made_records : Table → List ℕ
made_records table = take (20 * table.count) table.records

-- The nets of four pins.
unfoldable pub four_nets : List Letters → List Letters → List ℕ
four_nets names pins = pin_net names pins 0 ∷ pin_net names pins 1 ∷ pin_net names pins 2 ∷ pin_net names pins 3 ∷ []

-- The pins of a gate, looked up: their nets, if all are known.
abbrev pub PinsPlaced : List Name → List Name → Option (List ℕ) → Type 0
PinsPlaced kept pins nets =
    (names : List Letters) (words : List Letters) → Held names kept → are_names words ≡ true → pins ≡ map name_kept words
    → nets ≡ cond (all_known words names) (Some (four_nets names words)) None

-- What an accepted line adds: its name, and its record.
pub record Added (list : List ℕ) (names : List Letters) (form : Form) (before after : Table) : Type 0 where
  pub gates : after.gates ≡ (before.gates || is_gate form)
  pub held : Held (names ++ given_by form) (held_names after)
  pub made : made_records after ≡ made_records before ++ record_of list names form

-- A line taken, given the names of the earlier ones.
pub record LineTaken (form : Form) (number : ℕ) (list : List ℕ) (names : List Letters) (before after : Table) (v : Verdict) : Type 0 where
  pub judged : v ≡ verdict (line_checks number names before.gates form)
  pub added : v ≡ Accepted → Added list names form before after

-- The same for all names that are held.
abbrev pub LineRead : Form → ℕ → List ℕ → Table → Table → Verdict → Type 0
LineRead form number list before after v =
    (names : List Letters) → Held names (held_names before) → LineTaken form number list names before after v

-- The lines that give a record, as they are kept, are taken as the forms are that they were kept of.

abbrev pub InputTaken : Name → ℕ → Table → Table → Verdict → Type 0
InputTaken name number before after v =
    (word : Letters) (list : List ℕ) → is_name word ≡ true → name ≡ name_kept word → LineRead (input word) number list before after v

abbrev pub GateTaken : KeptGate → ℕ → List ℕ → Table → Table → Verdict → Type 0
GateTaken given number list before after v =
    (name word : Letters) (pins : List Letters) → form_right (gate name word pins) ≡ true → given ≡ gate_kept name word pins
    → LineRead (gate name word pins) number list before after v

-- Lines taken, of which `rest` is left, all of them accepted: their names are held, and their records made.
pub record LinesTaken (text list : List ℕ) (table : Table) (rest : List ℕ) (number : ℕ) : Type 0 where
  pub names : List Letters
  pub held : Held names (held_names table)
  pub judged : verdict (lines_from 1 [] false (forms_of text)) ≡ verdict (lines_from number names table.gates (forms_of rest))
  pub made : records_from list [] (forms_of text) ≡ made_records table ++ records_from list names (forms_of rest)
  pub numbered : number + length rest ≤ length text + 1

-- The lines from the first on, up to the 1,024th record: the refusal of one of them, or what was taken, of a text with fewer records all.
pub record Begun (text list : List ℕ) (table : Table) (progress : Result Progress Refusal) : Type 0 where
  pub refused : (r : Refusal) → progress ≡ Err r → verdict (lines_from 1 [] false (forms_of text)) ≡ Err r
  pub accepted : (reached : Progress) → progress ≡ Ok reached
      → LinesTaken text list table reached.rest.now reached.number × (table.count < 1024 → reached.rest.now ≡ [])

-- Whether every line is right by itself.
unfoldable pub all_right : List Form → Bool
all_right [] = true
all_right (form ∷ rest) = form_right form && all_right rest

-- Whether a line as it is kept gives a name.
abbrev pub gives : Option KeptLine → Name → Bool
gives None name = false
gives (Some Nothing) name = false
gives (Some (Input given)) name = same_name given name
gives (Some (Gate given)) name = same_name given.name name

-- Whether one of some lines that are right gives a name.
abbrev pub GivenIn : List Form → Name → Bool → Type 0
GivenIn forms name r = (word : Letters) → is_name word ≡ true → name ≡ name_kept word → all_right forms ≡ true → r ≡ known word (names_of forms)

-- Lines after the 1,024th record are judged by the names held and those that `forms`, the lines from there on, give.

abbrev pub forms_before : Earlier → List Form
forms_before earlier = take earlier.lines (forms_of earlier.text.now)

abbrev pub KnownIn : List Form → List Name → Name → Bool → Type 0
KnownIn forms kept name r =
    (names : List Letters) (word : Letters) → Held names kept → all_right forms ≡ true → is_name word ≡ true
    → name ≡ name_kept word → r ≡ known word (names ++ names_of forms)

abbrev pub AllKnownIn : List Form → List Name → List Name → Bool → Type 0
AllKnownIn forms kept pins r =
    (names : List Letters) (words : List Letters) → Held names kept → all_right forms ≡ true → are_names words ≡ true
    → pins ≡ map name_kept words → r ≡ all_known words (names ++ names_of forms)

abbrev pub JudgedIn : List Form → List Name → KeptLine → ℕ → Bool → Verdict → Type 0
JudgedIn forms kept given number gates r =
    (names : List Letters) (form : Form) → Held names kept → all_right forms ≡ true → given ≡ right_kept form
    → form_right form ≡ true → r ≡ verdict (line_checks number (names ++ names_of forms) gates form)

-- Whether one of them gives a record, or their refusal.
abbrev pub JudgedLater : List Form → List Name → ℕ → Bool → Result Bool Refusal → Type 0
JudgedLater forms kept number gates later =
    (names : List Letters) → Held names kept
    → later ≡ answer_after (verdict (lines_from number names gates forms)) (leb 1 (length (names_of forms)))

-- All lines taken: the refusal of a line, or of a 1,025th record, or all the records.
pub record TextTaken (text list : List ℕ) (table : Table) (v : Verdict) : Type 0 where
  pub refused : (q : Refusal) → v ≡ Err q
      → verdict (lines_from 1 [] false (forms_of text) ++ read_checks (records_from list [] (forms_of text))) ≡ Err q
  pub accepted : v ≡ Accepted
      → (verdict (lines_from 1 [] false (forms_of text)) ≡ Accepted) × (records_from list [] (forms_of text) ≡ made_records table)
