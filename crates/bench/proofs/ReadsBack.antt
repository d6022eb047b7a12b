-- The records of an accepted text read back as its lines.
-- Assumes nothing.
use Prim.Native.Nat.{ℕ, zero, suc, ◌+◌, ◌-◌, ◌*◌, ◌<◌}
use mathlib.Core.Bool.{true, false, not}
use mathlib.Core.List.{List, [], ◌∷◌, ◌++◌}
use mathlib.Core.Path.{◌≡◌, refl, ap, ◌∙◌}
use native.Mathlib.Nat.{mod-add-div}
use native.Mathlib.Omega.{arith}
use lib.ListN.{length, get_or, take, drop, get_or-append}
use lib.Seq.{get_or-append-add, get_or-append_seam, take_at}
use borrow.Author.Tests.{not-true}
use Rattle.laws.proofs.Tests.{and_left, and_right}
use Rattle.excitation.specs.UncertaintySet.{◌∈◌, member, decode}
use Rattle.excitation.proofs.Finite.{for_each}
use Rattle.block.specs.Record.{File, net_count, byte_at, word_at, kind, pin_count, pin}
use Rattle.block.specs.Verdict.{verdict, Accepted}
use Rattle.block.specs.Refusals.{read_checks, answer_to, read_of}
use Rattle.block.proofs.Verdicts.{both_accepted}
use Rattle.netlist.specs.Names.{Letters, same, known, all_known}
use Rattle.netlist.specs.Forms.{Form, input, gate, none, kind_named, pins_allowed, form_right, given_by, names_of, forms_of}
use Rattle.netlist.proofs.KnownWords.{same_turned, unknown_differs, all_known_at, StandsAt, known_stands}
use Rattle.netlist.proofs.RightGates.{pins_few, gate_counted}
use Rattle.bench.specs.Checks.{names_right, lines_from}
use Rattle.bench.specs.Records.{input_record, pin_net, gate_record, record_of, records_from}
use Rattle.bench.specs.Bench.{BenchArguments, bench_records, text_checks, bench_checks, lent_checks, bench_verdict, overlaid}
use Rattle.bench.specs.ReadsBack.{record_lines, OfRow, InputReadsBack, GateReadsBack, LineReadsBack, ReadsBack, BenchLaw}
use Rattle.bench.proofs.Told.{accepted_told}
use Rattle.bench.proofs.Lookups.{pin_net_lem}
use Rattle.bench.proofs.KeptLines.{Giving, by_input, by_gate}
use Rattle.bench.proofs.LineAmong.{names_append, records_append, records_length, as_many_names, line_passed, LineOf, line_of}

-- Byte k of a record that stands after others.
byte_of : (stored piece rest : List ℕ) (net k : ℕ) → length stored ≡ 20 * net → k < length piece
    → byte_at (stored ++ (piece ++ rest)) net k ≡ get_or piece k 0
byte_of stored piece rest net k e h = rw (← e) (get_or-append-add stored (piece ++ rest) k 0 ∙ get_or-append piece rest 0 k h)

-- The record of an input.
input_back : (stored rest : List ℕ) (net : ℕ) → length stored ≡ 20 * net → InputReadsBack (stored ++ (input_record ++ rest)) net
unfolding member decode
input_back stored rest net long = record {
  kind_is = byte_of stored input_record rest net 0 long (omega arith);
  all_allowed = λ e. rw (byte_of stored input_record rest net 18 long (omega arith)) (for_each (λ e. e ∈ decode 15) refl refl refl refl e);
}

-- The record of a gate of a kind, with so many pins on these nets.
record GateBytes (list : List ℕ) (k used : ℕ) (nets : ℕ → ℕ) (file : File) (net : ℕ) : Type 0 where
  kind_is : kind file net ≡ k
  count_is : pin_count file net ≡ used
  pin_is : (p : ℕ) → p < 4 → pin file net p ≡ nets p
  row : OfRow list (k - 2) file net

module _ (list stored rest : List ℕ) (net k used : ℕ) (nets : ℕ → ℕ) (long : length stored ≡ 20 * net) where
  abbrev gate_file : File
  gate_file = stored ++ (gate_record list k used nets ++ rest)

  gate_byte : (j : ℕ) → j < 20 → byte_at gate_file net j ≡ get_or (gate_record list k used nets) j 0
  unfolding gate_record
  gate_byte j h = byte_of stored (gate_record list k used nets) rest net j long h

  gate_word_lem : (j : ℕ) → j < 19
      → word_at gate_file net j ≡ get_or (gate_record list k used nets) j 0 + 256 * get_or (gate_record list k used nets) (j + 1) 0
  gate_word_lem j h = rw (gate_byte j (omega arith), gate_byte (j + 1) (omega arith)) refl

  -- The two bytes of a pin give it back.
  pin_back : (p : ℕ) → p < 4 → pin gate_file net p ≡ nets p
  unfolding gate_record
  pin_back zero h = gate_word_lem 4 (omega arith) ∙ mod-add-div (nets 0) 256
  pin_back (suc zero) h = gate_word_lem 6 (omega arith) ∙ mod-add-div (nets 1) 256
  pin_back (suc (suc zero)) h = gate_word_lem 8 (omega arith) ∙ mod-add-div (nets 2) 256
  pin_back (suc (suc (suc zero))) h = gate_word_lem 10 (omega arith) ∙ mod-add-div (nets 3) 256
  pin_back (suc (suc (suc (suc p)))) h = absurd (omega arith)

  gate_bytes : GateBytes list k used nets gate_file net
  unfolding gate_record
  gate_bytes = record {
    kind_is = gate_byte 0 (omega arith);
    count_is = gate_byte 3 (omega arith);
    pin_is = pin_back;
    row = record {
      contact_is = gate_byte 1 (omega arith);
      delay_is = gate_byte 2 (omega arith);
      rise_is = gate_byte 12 (omega arith);
      fall_is = gate_byte 13 (omega arith);
      peak_lh_is = gate_word_lem 14 (omega arith);
      peak_hl_is = gate_word_lem 16 (omega arith);
    };
  }

-- A pin whose name is known is the net that has it.
pin_placed : (names pins : List Letters) (p : ℕ) → all_known pins names ≡ true → p < length pins
    → StandsAt (get_or pins p []) names (pin_net names pins p)
pin_placed names pins p e h = rw (pin_net_lem names pins p h) (known_stands (get_or pins p []) names (all_known_at pins names p e h))

-- The record of a gate by its line, which stands after lines that give these names.
gate_back : (list : List ℕ) (names later : List Letters) (word : Letters) (pins : List Letters) (file : File)
    → pins_allowed (kind_named word) (length pins) ≡ true → all_known pins names ≡ true
    → GateBytes list (kind_named word) (length pins) (pin_net names pins) file (length names)
    → GateReadsBack list (names ++ later) word pins file (length names)
gate_back list names later word pins file allowed found bytes =
    let few = pins_few (kind_named word) (length pins) allowed in
    let placed : (p : ℕ) → p < length pins → StandsAt (get_or pins p []) names (pin file (length names) p) =
    λ p h. rw (bytes.pin_is p (omega arith)) (pin_placed names pins p found h) in
    record {
      kind_is = bytes.kind_is;
      as_many_pins = bytes.count_is;
      pin_named = λ p h. let at = placed p h in get_or-append names later [] _ at.0 ∙ at.1;
      pin_earlier = λ p h. (placed p h).0;
      row = bytes.row;
    }

-- A line that gives a record, with the lines before and after it. It is right, its name is new and has the place of the record, and the
-- record stands after those of the lines before it.

new_name : (names : List Letters) {form : Form} (name : Letters) → Giving form → given_by form ≡ name ∷ [] → names_right names form ≡ true
    → known name names ≡ false
unfolding given_by names_right
new_name names name (by_input given) e right = let same : given ≡ name = cc in rw same at (not-true (known given names) right)
new_name names name (by_gate given word pins) e right =
    let same : given ≡ name = cc in
    rw same at (not-true (known given names) (and_left (not (known given names)) (all_known pins names) right))

names_are : (before : List Form) (form : Form) (after : List Form)
    → names_of (before ++ form ∷ after) ≡ names_of before ++ (given_by form ++ names_of after)
unfolding names_of
names_are before form after = names_append before (form ∷ after)

name_back : (before : List Form) (form : Form) (after : List Form) (name : Letters) → given_by form ≡ name ∷ []
    → get_or (names_of (before ++ form ∷ after)) (length (names_of before)) [] ≡ name
name_back before form after name e = rw (names_are before form after, e) (get_or-append_seam (names_of before) name (names_of after) [])

records_are : (list : List ℕ) (before : List Form) (form : Form) (after : List Form)
    → records_from list [] (before ++ form ∷ after)
    ≡ records_from list [] before ++ (record_of list (names_of before) form ++ records_from list (names_of before ++ given_by form) after)
unfolding records_from
records_are list before form after = records_append list [] before (form ∷ after)

line_back : (list : List ℕ) (before : List Form) {form : Form} (after : List Form) → Giving form → form_right form ≡ true
    → names_right (names_of before) form ≡ true
    → LineReadsBack list (names_of (before ++ form ∷ after)) form (records_from list [] (before ++ form ∷ after)) (length (names_of before))
unfolding given_by record_of form_right names_right
line_back list before after (by_input given) right known_names =
    let stored = records_from list [] before in
    let rest = records_from list (names_of before ++ (given ∷ [])) after in
    let back = input_back stored rest (length (names_of before)) (records_length list [] before) in
    (rw (records_are list before (input given) after) back, name_back before (input given) after given refl)
line_back list before after (by_gate given word pins) right known_names =
    let names = names_of before in
    let stored = records_from list [] before in
    let rest = records_from list (names ++ (given ∷ [])) after in
    let allowed = gate_counted given word pins right in
    let found = and_right (not (known given names)) (all_known pins names) known_names in
    let long = records_length list [] before in
    let bytes = gate_bytes list stored rest (length names) (kind_named word) (length pins) (pin_net names pins) long in
    let back = gate_back list names (given ∷ names_of after) word pins _ allowed found bytes in (
      rw (records_are list before (gate given word pins) after, names_are before (gate given word pins) after) back,
      name_back before (gate given word pins) after given refl,
    )

-- The line of a net in an accepted text.
module _ (forms : List Form) (net : ℕ) (l : LineOf forms net) (accepted : verdict (lines_from 1 [] false forms) ≡ Accepted) where
  line_right : (form_right l.form ≡ true) × (names_right (names_of l.before) l.form ≡ true)
  line_right = line_passed 1 [] false l.before l.form l.after (rw l.split at accepted)

  reads_back : (list : List ℕ) → LineReadsBack list (names_of forms) (get_or (record_lines forms) net none) (records_from list [] forms) net
  reads_back list =
      let back = line_back list l.before l.after l.gives line_right.0 line_right.1 in
      rw (l.is, l.split, ← l.earlier) back

  -- Its name is none of the earlier ones.
  earlier_differs : (i : ℕ) → i < net → same (get_or (names_of forms) i []) (get_or (names_of forms) net []) ≡ false
  earlier_differs i h =
      let new = new_name (names_of l.before) l.name l.gives l.named line_right.1 in
      let h' : i < length (names_of l.before) = rw l.earlier h in
      let apart = same_turned _ l.name ∙ unknown_differs l.name (names_of l.before) i new h' in
      let at_net : get_or (names_of forms) net [] ≡ l.name =
      rw (l.split, ← l.earlier) (name_back l.before l.form l.after l.name l.named) in
      let at_i : get_or (names_of forms) i [] ≡ get_or (names_of l.before) i [] =
      rw (l.split, names_are l.before l.form l.after) (get_or-append (names_of l.before) _ [] i h') in
      rw (at_net, at_i) apart

-- The records of an accepted text.
records_back : (given : BenchArguments) → bench_verdict given ≡ Accepted → ReadsBack given (bench_records given)
unfolding bench_verdict bench_checks text_checks bench_records read_of
records_back given e =
    let forms = forms_of given.text in
    let file = records_from given.list [] forms in
    let both = both_accepted (lines_from 1 [] false forms) (read_checks file) (both_accepted (lent_checks given) _ e).1 in
    let long = records_length given.list [] forms in
    let many = as_many_names forms in
    let as_many : net_count file ≡ length (record_lines forms) = omega arith in
    record {
      read = ap (answer_to file) both.1;
      as_many = as_many;
      line = λ net h. reads_back forms net (line_of forms net (omega arith)) both.0 given.list;
      different = λ i j low high. earlier_differs forms j (line_of forms j (omega arith)) both.0 i low;
    }

pub bench_law : BenchLaw
unfolding overlaid bench_records
bench_law given count records' b =
    let made = bench_records given in
    let c = accepted_told (bench_verdict given) b.answered in
    let long = records_length given.list [] (forms_of given.text) in
    let written : records' ≡ made ++ drop (length made) given.records = rw c.0 at b.written in
    let file_is : take (20 * count) records' ≡ made = rw written (take_at made _ (20 * count) (omega arith)) in
    rw file_is (c.1, records_back given c.0)
