-- Laws of lines that are taken one by one: the verdict, the name and the record of a line, from what was looked up, and lines that add
-- nothing.
-- Assumes nothing.
use Prim.Native.Nat.{ℕ}
use mathlib.Core.Bool.{Bool, true, false, cond, not, ◌&&◌, ◌||◌, and-true, and-false, or-true, or-false, false≢true}
use mathlib.Core.List.{List, [], ◌∷◌, ◌++◌, append-nil}
use mathlib.Core.Path.{◌≡◌, refl, sym, ap, ◌∙◌}
use Rattle.std.proofs.lemmas.List.{length-map}
use Rattle.std.proofs.Common.{Option, Some, None}
use Rattle.std.specs.Prelude.{is_some, Err}
use lib.ListN.{length, get_or}
use Rattle.block.specs.declared.verdict.Refusal.{Refusal}
use Rattle.block.specs.Verdict.{check, verdict, refusal, Verdict, Accepted}
use Rattle.block.specs.declared.verdict.Reason.TheVariants.{WrongLine, WrongName}
use Rattle.block.proofs.Verdicts.{apart}
use Rattle.netlist.specs.Names.{Letters, is_name, known, all_known}
use Rattle.netlist.specs.Forms.{Form, empty, input, output, gate, none, form_right, given_by, is_gate}
use Rattle.netlist.specs.Kept.{name_kept, KeptGate, gate_kept, Nothing, right_kept}
use Rattle.netlist.specs.declared.Name.{Name}
use Rattle.netlist.proofs.RightGates.{gate_named, gate_pins}
use Rattle.bench.specs.declared.Table.{Table}
use Rattle.bench.specs.Checks.{line_checks}
use Rattle.bench.specs.Records.{input_record, gate_record, record_of}
use Rattle.bench.specs.Held.{Held, held_names, made_records, PinsPlaced, four_nets, LineTaken, InputTaken, GateTaken}
use Rattle.bench.proofs.Lookups.{Placed, known_by_place}
use Rattle.bench.proofs.Pins.{told_some, told_none}
use Rattle.bench.proofs.HeldNames.{held_next}
use Rattle.bench.proofs.Judged.{wrong_line_lem, no_record, input_misplaced, input_judged, gate_judged}

-- What is left of the table where a record and its name were put after the others.
pub record Grown (before after : Table) (name : Name) (bytes : List ℕ) : Type 0 where
  pub names : held_names after ≡ held_names before ++ (name ∷ [])
  pub made : made_records after ≡ made_records before ++ bytes

turned : (a b : Bool) → a ≡ not b → b ≡ not a
turned a true e = rw e refl
turned a false e = rw e refl

-- The line of an input, by its two checks, and from the place of its name.
module _ {name : Name} (number : ℕ) (before : Table) {v : Verdict}
    (first : v ≡ verdict (check WrongLine number (not before.gates) ∷ [])) where
  pub input_refused : {after : Table} {r : Refusal} → v ≡ Err r → InputTaken name number before after (Err r)
  input_refused {r = r} e word list proper named names held =
      record { judged = input_misplaced number names before.gates word proper first e; added = λ a. apart r a }

  module _ {place : Option ℕ} (new : Bool) {w : Verdict} (passes : v ≡ Accepted) (placed : Placed (held_names before) name place)
      (is : is_some place ≡ not new) (second : w ≡ verdict (check WrongName number new ∷ [])) where
    input_checked : (names : List Letters) (word : Letters) → Held names (held_names before) → is_name word ≡ true → name ≡ name_kept word
        → w ≡ verdict (line_checks number names before.gates (input word))
    input_checked names word held proper named =
        input_judged number names before.gates word proper first passes
        (turned (is_some place) new is ∙ ap not (known_by_place placed names word held proper named)) second

    pub input_again : {after : Table} {r : Refusal} → w ≡ Err r → InputTaken name number before after (Err r)
    input_again {r = r} e word list proper named names held =
        record { judged = sym e ∙ input_checked names word held proper named; added = λ a. apart r a }

    pub input_taken : {after : Table} → w ≡ Accepted → Grown before after name input_record → after.gates ≡ before.gates
        → InputTaken name number before after Accepted
    unfolding given_by record_of
    input_taken e grown gates word list proper named names held = record {
      judged = sym e ∙ input_checked names word held proper named;
      added = λ a. record {
        gates = gates ∙ sym (or-false before.gates);
        held = rw (grown.names, named) (held_next names word (held_names before) proper held);
        made = grown.made;
      };
    }

-- The line of a gate, from the place of its name and the nets of its pins.

module _ (before : Table) {given : KeptGate} (name word : Letters) (pins : List Letters)
    (fits : form_right (gate name word pins) ≡ true) (same : given ≡ gate_kept name word pins) (names : List Letters)
    (held : Held names (held_names before)) where
  known_is : {place : Option ℕ} → Placed (held_names before) given.name place → is_some place ≡ known name names
  known_is named = known_by_place named names name held (gate_named name word pins fits) (ap (λ g. g.name) same)

  nets_are : {nets : Option (List ℕ)} → PinsPlaced (held_names before) given.pins nets
      → nets ≡ cond (all_known pins names) (Some (four_nets names pins)) None
  nets_are placed = placed names pins held (gate_pins name word pins fits) (ap (λ g. g.pins) same)

-- A pin is unknown.
pub gate_unknown : {given : KeptGate} {number : ℕ} {list : List ℕ} {before after : Table} {nets : Option (List ℕ)}
    → PinsPlaced (held_names before) given.pins nets → nets ≡ None → GateTaken given number list before after (Err (refusal WrongName number))
unfolding verdict
gate_unknown {number = number} {before = before} placed e name word pins fits same names held =
    let unknown = told_none (four_nets names pins) (all_known pins names) (sym e ∙ nets_are before name word pins fits same names held placed) in
    let passes : false ≡ (not (known name names) && false) = sym (and-false (not (known name names))) in
    record {
      judged = gate_judged number names before.gates name word pins fits refl (sym unknown) (ap (λ b. verdict (check WrongName number b ∷ [])) passes);
      added = λ a. apart _ a;
    }

-- All pins are known: the check of the name decides.
module _ {given : KeptGate} (number : ℕ) (before : Table) {place : Option ℕ} {nets : Option (List ℕ)} {found : List ℕ}
    {again : Bool} {v : Verdict} (placed : PinsPlaced (held_names before) given.pins nets) (all : nets ≡ Some found)
    (named : Placed (held_names before) given.name place) (is : again ≡ is_some place)
    (made : v ≡ verdict (check WrongName number (not again) ∷ [])) where
  gate_checked : (name word : Letters) (pins : List Letters) → form_right (gate name word pins) ≡ true → given ≡ gate_kept name word pins
      → (names : List Letters) → Held names (held_names before)
      → (v ≡ verdict (line_checks number names before.gates (gate name word pins))) × (found ≡ four_nets names pins)
  gate_checked name word pins fits same names held =
      let told = told_some (all_known pins names) (sym all ∙ nets_are before name word pins fits same names held placed) in (
        gate_judged number names before.gates name word pins fits
            (ap not (is ∙ known_is before name word pins fits same names held named))
            (sym told.0)
            (made ∙ ap (λ b. verdict (check WrongName number b ∷ [])) (sym (and-true (not again)))),
        told.1,
      )

  pub gate_again : {list : List ℕ} {after : Table} {r : Refusal} → v ≡ Err r → GateTaken given number list before after (Err r)
  gate_again {r = r} e name word pins fits same names held =
      record { judged = sym e ∙ (gate_checked name word pins fits same names held).0; added = λ a. apart r a }

  pub gate_taken : {list : List ℕ} {after : Table} → v ≡ Accepted → Grown before after given.name (gate_record list given.kind (length given.pins) (λ p. get_or found p 0))
      → after.gates ≡ true → GateTaken given number list before after Accepted
  unfolding given_by record_of gate_record four_nets
  gate_taken e grown gates name word pins fits same names held =
      let checked = gate_checked name word pins fits same names held in
      record {
        judged = sym e ∙ checked.0;
        added = λ a. record {
          gates = gates ∙ sym (or-true before.gates);
          held = rw (grown.names, same) (held_next names name (held_names before) (gate_named name word pins fits) held);
          made = grown.made ∙ rw (same, checked.1, length-map pins name_kept) refl;
        };
      }

-- Lines that add nothing.
module _ (list : List ℕ) (table : Table) (names : List Letters) (number : ℕ) where
  -- A line that is not right is refused.
  pub wrong_taken : (form : Form) → form_right form ≡ false → LineTaken form number list names table table (Err (refusal WrongLine number))
  wrong_taken form wrong = record { judged = wrong_line_lem number names table.gates form wrong; added = λ e. apart _ e }

  -- A right line that gives no record leaves all as it is.

  nothing_given : (form : Form) → form_right form ≡ true → Nothing ≡ right_kept form
      → (given_by form ≡ []) × (is_gate form ≡ false) × (record_of list names form ≡ [])
  unfolding form_right given_by record_of
  nothing_given empty right e = (refl, refl, refl)
  nothing_given (input name) right e = cc
  nothing_given (output name) right e = (refl, refl, refl)
  nothing_given (gate name word pins) right e = cc
  nothing_given none right e = absurd (false≢true right)

  pub nothing_taken : (form : Form) → Held names (held_names table) → form_right form ≡ true → Nothing ≡ right_kept form
      → LineTaken form number list names table table Accepted
  nothing_taken form held right e =
      let nothing = nothing_given form right e in
      record {
        judged = no_record number names table.gates form right e;
        added = λ e. record {
          gates = sym (ap (λ b. table.gates || b) nothing.1 ∙ or-false table.gates);
          held = rw (nothing.0, append-nil names) held;
          made = sym (ap (λ l. made_records table ++ l) nothing.2 ∙ append-nil (made_records table));
        };
      }
