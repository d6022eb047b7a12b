-- A right line is a right form, written, and a right form is read back from how it is written.
-- Assumes nothing.
use Prim.Native.Nat.{ℕ, ◌≤◌, ◌<◌}
use mathlib.Core.Bool.{Bool, true, false, cond, false≢true}
use mathlib.Core.List.{List, [], ◌∷◌, ◌++◌, append_assoc}
use mathlib.Core.Path.{◌≡◌, refl, ap, sym, subst, ◌∙◌}
use native.Mathlib.Omega.{arith}
use lib.Dec.{eqb, ltb}
use lib.ListN.{length, get_or-eq_default}
use borrow.Author.Tests.{eqb-true, ltb-true, ltb-false}
use borrow.Table.Steps.{cases}
use Rattle.laws.specs.Ascii.{ascii}
use Rattle.laws.proofs.Tests.{and_left, and_right, and_both}
use Rattle.block.specs.Refusals.{within}
use Rattle.netlist.specs.declared.Mark.{Mark}
use Rattle.netlist.specs.declared.Mark.TheVariants.{Equals, Open, Comma, Close, Other, End}
use Rattle.netlist.specs.Lines.{uncommented, is_blank, without_blanks, content}
use Rattle.netlist.specs.Names.{Letters, is_letter_or_digit, lettered, is_name, are_names, same, position}
use Rattle.netlist.specs.Forms.{Part, part, mark_of, begun_by, parts_of, Form, empty, input, output, gate, none, is_empty, is_end, ended, closed, bracketed, declaring, declared, assigned, form_of, line_form, kind_words, kind_named, pins_allowed, form_right}
use Rattle.netlist.specs.Written.{divided, written_form, OneForm}
use Rattle.netlist.proofs.Packing.{same_is, first_proper, rest_proper, name_proper}
use Rattle.netlist.proofs.KnownWords.{name_at, at_position}
use Rattle.netlist.proofs.RightGates.{kind_low, pins_some, gate_named, gate_pins, gate_counted}
use Rattle.netlist.proofs.Parts.{at_letter}

-- The marks that the forms are written with, and their bytes.
data Marked : ℕ → Mark → Type 0 where
  is_equals : Marked 61 Equals
  is_open : Marked 40 Open
  is_comma : Marked 44 Comma
  is_close : Marked 41 Close

-- Bytes and their parts: a word, the byte of the mark after it, and the bytes of the parts that follow. Nothing is said of the bytes where
-- the mark is in no form.
data Parted : List ℕ → List Part → Type 0 where
  last : (word : Letters) → Parted word (part word End ∷ [])
  marked : (word : Letters) {byte : ℕ} {mark : Mark} {rest : List ℕ} {parts : List Part} → Marked byte mark → Parted rest parts
      → Parted (word ++ (byte ∷ rest)) (part word mark ∷ parts)
  other : (word : Letters) (bytes : List ℕ) (parts : List Part) → Parted bytes (part word Other ∷ parts)

-- What a line's bytes are, from the form that its parts make.

parted_letter : (byte : ℕ) {bytes : List ℕ} {parts : List Part} → Parted bytes parts → Parted (byte ∷ bytes) (begun_by byte parts)
parted_letter byte (last word) = last (byte ∷ word)
parted_letter byte (marked word m p) = marked (byte ∷ word) m p
parted_letter byte (other word bytes parts) = other (byte ∷ word) (byte ∷ bytes) parts

parted_mark : (byte : ℕ) {bytes : List ℕ} {parts : List Part} → Parted bytes parts → Parted (byte ∷ bytes) (part [] (mark_of byte) ∷ parts)
unfolding mark_of
parted_mark byte {bytes} {parts} p =
    cases (eqb byte 61) (λ e. rw (e, eqb-true byte 61 e) (marked [] is_equals p))
    (λ e. rw e (cases (eqb byte 40) (λ e. rw (e, eqb-true byte 40 e) (marked [] is_open p))
    (λ e. rw e (cases (eqb byte 44) (λ e. rw (e, eqb-true byte 44 e) (marked [] is_comma p))
    (λ e. rw e (cases (eqb byte 41) (λ e. rw (e, eqb-true byte 41 e) (marked [] is_close p))
    (λ e. rw e (other [] (byte ∷ bytes) parts))))))))

parted : (bytes : List ℕ) → Parted bytes (parts_of bytes)
unfolding parts_of
parted [] = last []
parted (byte ∷ rest) =
    cases (is_letter_or_digit byte) (λ e. rw e (parted_letter byte (parted rest))) (λ e. rw e (parted_mark byte (parted rest)))

-- The line goes on after each of these marks.
goes_on : {byte : ℕ} {mark : Mark} → Marked byte mark → is_end mark ≡ false
goes_on is_equals = refl
goes_on is_open = refl
goes_on is_comma = refl
goes_on is_close = refl

ended_written : {bytes : List ℕ} {parts : List Part} → Parted bytes parts → ended parts ≡ true → bytes ≡ []
unfolding ended
ended_written (last []) e = refl
ended_written (last (letter ∷ word)) e = absurd (false≢true e)
ended_written (marked word {mark = mark} m p) e = absurd (false≢true (sym (goes_on m) ∙ and_right (is_empty word) (is_end mark) e))
ended_written (other word bytes parts) e = absurd (false≢true (and_right (is_empty word) false e))

-- One name more before others.
divided_more : (name : Letters) (parts : List Part) → closed parts ≡ true
    → divided (name ∷ bracketed parts) ≡ name ++ (44 ∷ divided (bracketed parts))
unfolding closed bracketed divided
divided_more name [] e = absurd (false≢true e)
divided_more name (first ∷ rest) e = append_assoc name (44 ∷ []) _

closed_written : {bytes : List ℕ} {parts : List Part} → Parted bytes parts → closed parts ≡ true
    → bytes ≡ divided (bracketed parts) ++ ascii ")"
unfolding closed bracketed divided
closed_written (last word) e = absurd (false≢true e)
closed_written (marked word {parts = parts} is_comma p) e =
    rw (divided_more word parts e, append_assoc) (ap (λ (rest : List ℕ). word ++ (44 ∷ rest)) (closed_written p e))
closed_written (marked word is_close p) e = ap (λ (rest : List ℕ). word ++ (41 ∷ rest)) (ended_written p e)
closed_written (marked word is_equals p) e = absurd (false≢true e)
closed_written (marked word is_open p) e = absurd (false≢true e)
closed_written (other word bytes parts) e = absurd (false≢true e)

-- A right form that a test lets through.
let_through : (test : Bool) (form : Form) → form_right (cond test form none) ≡ true → (test ≡ true) × (form_right form ≡ true)
unfolding form_right
let_through true form r = (refl, r)
let_through false form r = absurd (false≢true r)

declaring_written : (word : Letters) (names : List Letters) → form_right (declaring word names) ≡ true
    → word ++ (40 ∷ (divided names ++ ascii ")")) ≡ written_form (declaring word names)
unfolding declaring form_right written_form divided
declaring_written word [] r = absurd (false≢true r)
declaring_written word (name ∷ []) r =
    cases (same word (ascii "INPUT"))
    (λ e. rw (e, same_is word (ascii "INPUT") e) refl)
    (λ e.
    let second = (let_through (same word (ascii "OUTPUT")) (output name) (rw e at r)).0 in
    rw (e, second, same_is word (ascii "OUTPUT") second) refl)
declaring_written word (name ∷ second ∷ rest) r = absurd (false≢true r)

assigned_written : (name : Letters) {bytes : List ℕ} {parts : List Part} → Parted bytes parts → form_right (assigned name parts) ≡ true
    → name ++ (61 ∷ bytes) ≡ written_form (assigned name parts)
unfolding assigned form_right written_form
assigned_written name (last word) r = absurd (false≢true r)
assigned_written name (marked word {parts = parts} is_open p) r =
    let shut = (let_through (closed parts) (gate name word (bracketed parts)) r).0 in
    rw (shut, closed_written p shut) (simp append_assoc)
assigned_written name (marked word is_equals p) r = absurd (false≢true r)
assigned_written name (marked word is_comma p) r = absurd (false≢true r)
assigned_written name (marked word is_close p) r = absurd (false≢true r)
assigned_written name (other word bytes parts) r = absurd (false≢true r)

form_written : {bytes : List ℕ} {parts : List Part} → Parted bytes parts → form_right (form_of parts) ≡ true
    → bytes ≡ written_form (form_of parts)
unfolding form_of declared form_right written_form
form_written (last []) r = refl
form_written (last (letter ∷ word)) r = absurd (false≢true r)
form_written (marked word is_equals p) r = assigned_written word p r
form_written (marked word {parts = parts} is_open p) r =
    let held = let_through (closed parts) (declaring word (bracketed parts)) r in
    rw (held.0, closed_written p held.0) (declaring_written word (bracketed parts) held.1)
form_written (marked word is_comma p) r = absurd (false≢true r)
form_written (marked word is_close p) r = absurd (false≢true r)
form_written (other word bytes parts) r = absurd (false≢true r)

-- What the parts of a form are, as it is written.

abbrev line_parts : List ℕ → List Part
line_parts line = parts_of (content line)

read_mark : {byte : ℕ} {mark : Mark} (rest : List ℕ) → Marked byte mark → line_parts (byte ∷ rest) ≡ part [] mark ∷ line_parts rest
unfolding content uncommented without_blanks is_blank parts_of is_letter_or_digit within mark_of
read_mark rest is_equals = refl
read_mark rest is_open = refl
read_mark rest is_comma = refl
read_mark rest is_close = refl

-- `#` is no letter.
not_comment : (byte : ℕ) → is_letter_or_digit byte ≡ true → byte ≡ 35 → ⊥
unfolding is_letter_or_digit within
not_comment byte e z = false≢true (rw z at e)

-- A word of letters and the mark after it are the first part of a line.
read_part : {byte : ℕ} {mark : Mark} (word : Letters) (rest : List ℕ) → Marked byte mark → lettered word ≡ true
    → line_parts (word ++ (byte ∷ rest)) ≡ part word mark ∷ line_parts rest
read_part [] rest m proper = read_mark rest m
read_part {byte} (letter ∷ word) rest m proper =
    let first = first_proper letter word proper in
    at_letter (letter ∷ (word ++ (byte ∷ rest))) 0 (omega arith) (not_comment letter first) first
    ∙ ap (begun_by letter) (read_part word rest m (rest_proper letter word proper))

-- Names with commas between them, and the bracket that closes them.
read_bracketed : (name : Letters) (names : List Letters) → are_names (name ∷ names) ≡ true
    → (closed (line_parts (divided (name ∷ names) ++ ascii ")")) ≡ true)
    × (bracketed (line_parts (divided (name ∷ names) ++ ascii ")")) ≡ name ∷ names)
unfolding are_names divided closed bracketed ended content uncommented without_blanks parts_of
read_bracketed name [] proper =
    let first = name_proper name (and_left (is_name name) true proper) in
    rw (read_part name [] is_close first) (refl, refl)
read_bracketed name (second ∷ rest) proper =
    let first = name_proper name (and_left (is_name name) (are_names (second ∷ rest)) proper) in
    let after = read_bracketed second rest (and_right (is_name name) (are_names (second ∷ rest)) proper) in
    simp append_assoc (rw (read_part name _ is_comma first) (after.0, ap (λ (words : List Letters). name ∷ words) after.1))

-- A word that is among names is one.
known_name : (word : Letters) (names : List Letters) → are_names names ≡ true → position word names < length names → is_name word ≡ true
known_name word names proper h =
    subst (λ name. is_name name ≡ true) (at_position word names h) (name_at names proper (position word names) h)

-- The word of a right gate is one of the kinds' words, and so a name.

no_kind : (word : Letters) → 9 ≤ position word kind_words → kind_named word ≡ 0
unfolding kind_named
no_kind word past = rw get_or-eq_default

kind_name : (word : Letters) (count : ℕ) → pins_allowed (kind_named word) count ≡ true → is_name word ≡ true
unfolding are_names is_name within lettered is_letter_or_digit
kind_name word count allowed =
    cases (ltb (position word kind_words) 9)
    (λ e. known_name word kind_words refl (ltb-true (position word kind_words) 9 e))
    (λ e.
    let none = no_kind word (ltb-false (position word kind_words) 9 e) in
    absurd (omega (arith, kind_low (kind_named word) count allowed)))

read_declaration : (word name : Letters) → lettered word ≡ true → is_name name ≡ true
    → line_form (word ++ (40 ∷ (name ++ ascii ")"))) ≡ declaring word (name ∷ [])
unfolding line_form form_of declared divided are_names
read_declaration word name w n =
    let inside = read_bracketed name [] (and_both n refl) in
    rw (read_part word (name ++ ascii ")") is_open w, inside.0, inside.1) refl

read_gate : (name word : Letters) (pins : List Letters) → is_name name ≡ true → are_names pins ≡ true
    → pins_allowed (kind_named word) (length pins) ≡ true → line_form (written_form (gate name word pins)) ≡ gate name word pins
unfolding line_form written_form form_of assigned
read_gate name word [] n p allowed = absurd (omega (arith, pins_some (kind_named word) 0 allowed))
read_gate name word (pin ∷ pins) n p allowed =
    let kind = name_proper word (kind_name word (length (pin ∷ pins)) allowed) in
    let inside = read_bracketed pin pins p in
    simp append_assoc
    (rw (read_part name _ is_equals (name_proper name n), read_part word _ is_open kind, inside.0, inside.1) refl)

read_back : (form : Form) → form_right form ≡ true → line_form (written_form form) ≡ form
unfolding form_right line_form written_form lettered is_letter_or_digit within declaring same content uncommented without_blanks parts_of form_of
read_back empty r = refl
read_back (input name) r = read_declaration (ascii "INPUT") name refl r
read_back (output name) r = read_declaration (ascii "OUTPUT") name refl r
read_back (gate name word pins) r =
    read_gate name word pins (gate_named name word pins r) (gate_pins name word pins r) (gate_counted name word pins r)
read_back none r = absurd (false≢true r)

written : (line : List ℕ) → form_right (line_form line) ≡ true → content line ≡ written_form (line_form line)
unfolding line_form
written line r = form_written (parted (content line)) r

-- A form as it is written has nothing that content would leave out.
formed : (line : List ℕ) (form : Form) → form_right form ≡ true → content line ≡ written_form form → line_form line ≡ form
unfolding line_form
formed line form r e =
    let back = read_back form r in
    let whole = written (written_form form) (ap form_right back ∙ r) ∙ ap written_form back in
    ap (λ c. form_of (parts_of c)) (e ∙ sym whole) ∙ back

pub one_form : OneForm
one_form = record { written = written; formed = formed; read_back = read_back }
