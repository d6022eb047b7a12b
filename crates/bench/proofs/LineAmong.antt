-- Laws of lines among others: the names and the records of those before them, and which line gives a record.
-- Assumes nothing.
use Prim.Native.Nat.{ℕ, zero, suc, ◌+◌, ◌*◌, ◌<◌}
use mathlib.Core.Bool.{Bool, true, ◌&&◌, ◌||◌}
use mathlib.Core.List.{List, [], ◌∷◌, ◌++◌, append_assoc, append-nil}
use mathlib.Core.Path.{◌≡◌, refl, sym, ap, ◌∙◌}
use native.Mathlib.Omega.{arith}
use lib.ListN.{length, get_or, length-append}
use Rattle.laws.proofs.Tests.{and_left}
use Rattle.block.specs.Verdict.{verdict, Accepted}
use Rattle.block.specs.declared.verdict.Reason.TheVariants.{WrongLine, WrongName}
use Rattle.block.proofs.Verdicts.{both_accepted, passed}
use Rattle.netlist.specs.Names.{Letters}
use Rattle.netlist.specs.Forms.{Form, empty, input, output, gate, none, form_right, given_by, names_of, is_gate}
use Rattle.bench.specs.Checks.{in_place, names_right, line_checks, lines_from}
use Rattle.bench.specs.Records.{gate_record, record_of, records_from}
use Rattle.bench.specs.ReadsBack.{record_lines}
use Rattle.bench.proofs.KeptLines.{Giving, by_input, by_gate}

-- Names and records of lines, and of others after them.

pub names_append : (before after : List Form) → names_of (before ++ after) ≡ names_of before ++ names_of after
unfolding names_of
names_append [] after = refl
names_append (form ∷ before) after =
    ap (λ words. given_by form ++ words) (names_append before after) ∙ sym (append_assoc (given_by form) (names_of before) (names_of after))

pub records_append : (list : List ℕ) (names : List Letters) (before after : List Form)
    → records_from list names (before ++ after) ≡ records_from list names before ++ records_from list (names ++ names_of before) after
unfolding records_from names_of
records_append list names [] after = rw append-nil refl
records_append list names (form ∷ before) after =
    let later = records_append list (names ++ given_by form) before after in
    rw (later, append_assoc names (given_by form) (names_of before)) (sym (append_assoc (record_of list names form) _ _))

-- A record has 20 bytes, and each name that lines give has one.

record_length : (list : List ℕ) (names : List Letters) (form : Form) → length (record_of list names form) ≡ 20 * length (given_by form)
unfolding record_of gate_record given_by
record_length list names empty = refl
record_length list names (input name) = refl
record_length list names (output name) = refl
record_length list names (gate name word pins) = refl
record_length list names none = refl

pub records_length : (list : List ℕ) (names : List Letters) (forms : List Form)
    → length (records_from list names forms) ≡ 20 * length (names_of forms)
unfolding records_from names_of
records_length list names [] = refl
records_length list names (form ∷ rest) =
    let here = record_length list names form in
    let later = records_length list (names ++ given_by form) rest in
    simp length-append (omega arith)

-- Lines give as many names as records.
pub as_many_names : (forms : List Form) → length (names_of forms) ≡ length (record_lines forms)
unfolding names_of record_lines given_by
as_many_names [] = refl
as_many_names (empty ∷ rest) = as_many_names rest
as_many_names (input name ∷ rest) = ap suc (as_many_names rest)
as_many_names (output name ∷ rest) = as_many_names rest
as_many_names (gate name word pins ∷ rest) = ap suc (as_many_names rest)
as_many_names (none ∷ rest) = as_many_names rest

-- What an accepted text says of each line: it is right by itself, and so are its names after those of the lines before it.
pub line_passed : (number : ℕ) (names : List Letters) (gates : Bool) (before : List Form) (form : Form) (after : List Form)
    → verdict (lines_from number names gates (before ++ form ∷ after)) ≡ Accepted
    → (form_right form ≡ true) × (names_right (names ++ names_of before) form ≡ true)
unfolding lines_from names_of line_checks
line_passed number names gates [] form after e =
    let first = passed WrongLine number (form_right form && in_place gates form) _ e in
    let second = passed WrongName number (names_right names form) _ first.1 in
    (and_left (form_right form) (in_place gates form) first.0, rw append-nil second.0)
line_passed number names gates (first ∷ before) form after e =
    let later = (both_accepted (line_checks number names gates first) _ e).1 in
    rw append_assoc at (line_passed (suc number) (names ++ given_by first) (gates || is_gate first) before form after later)

-- The line that gives the record of a net, among all lines.
pub record LineOf (forms : List Form) (net : ℕ) : Type 0 where
  pub before : List Form
  pub form : Form
  pub after : List Form
  pub name : Letters
  pub gives : Giving form
  pub split : forms ≡ before ++ form ∷ after
  pub earlier : length (names_of before) ≡ net
  pub named : given_by form ≡ name ∷ []
  pub is : get_or (record_lines forms) net none ≡ form

-- The first line, and the line of a net with one line more before it.

first_line : {form : Form} {rest : List Form} {name : Letters} → Giving form → given_by form ≡ name ∷ []
    → get_or (record_lines (form ∷ rest)) 0 none ≡ form → LineOf (form ∷ rest) 0
unfolding names_of
first_line {form} {rest} {name} gives named is =
    record { before = []; form = form; after = rest; name = name; gives = gives; split = refl; earlier = refl; named = named; is = is }

one_more : (first : Form) (rest : List Form) (net all : ℕ) → all ≡ length (given_by first) + net
    → get_or (record_lines (first ∷ rest)) all none ≡ get_or (record_lines rest) net none → LineOf rest net → LineOf (first ∷ rest) all
unfolding names_of
one_more first rest net all counted same l = record {
  before = first ∷ l.before;
  form = l.form;
  after = l.after;
  name = l.name;
  gives = l.gives;
  split = ap (λ fs. first ∷ fs) l.split;
  earlier = let e = l.earlier in simp length-append (omega arith);
  named = l.named;
  is = same ∙ l.is;
}

pub line_of : (forms : List Form) (net : ℕ) → net < length (record_lines forms) → LineOf forms net
unfolding record_lines given_by names_of
line_of [] net h = absurd (omega arith)
line_of (empty ∷ rest) net h = one_more empty rest net net (omega arith) refl (line_of rest net h)
line_of (input name ∷ rest) zero h = first_line (by_input name) refl refl
line_of (input name ∷ rest) (suc net) h = one_more (input name) rest net (suc net) (omega arith) refl (line_of rest net (omega arith))
line_of (output name ∷ rest) net h = one_more (output name) rest net net (omega arith) refl (line_of rest net h)
line_of (gate name word pins ∷ rest) zero h = first_line (by_gate name word pins) refl refl
line_of (gate name word pins ∷ rest) (suc net) h =
    one_more (gate name word pins) rest net (suc net) (omega arith) refl (line_of rest net (omega arith))
line_of (none ∷ rest) net h = one_more none rest net net (omega arith) refl (line_of rest net h)
