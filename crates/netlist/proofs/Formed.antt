-- Laws of lines by their form: what makes a line of each form wrong, and how a right one is kept.
-- Assumes nothing.
use Prim.Native.Nat.{ℕ, ◌≤◌, ◌<◌}
use mathlib.Core.Bool.{Bool, true, false, ◌&&◌, cond, and-true, false≢true}
use mathlib.Core.List.{List, [], ◌∷◌, map}
use mathlib.Core.Path.{◌≡◌, refl, ap, sym, ◌∙◌}
use native.Mathlib.Omega.{arith}
use lib.Dec.{eqb}
use lib.ListN.{length, get_or}
use borrow.Author.Tests.{leb-false, eqb-true}
use borrow.Table.Steps.{cases}
use Rattle.std.proofs.Common.{Some, None}
use Rattle.std.specs.Bool.{then_some}
use Rattle.std.specs.Prelude.{option_map}
use Rattle.std.proofs.lemmas.List.{length-map}
use Rattle.laws.specs.Ascii.{ascii}
use Rattle.laws.proofs.Tests.{and_left, and_right, and_first_fails, and_second_fails}
use Rattle.block.specs.Refusals.{within}
use Rattle.netlist.specs.declared.Line.{Line}
use Rattle.netlist.specs.declared.Mark.TheVariants.{Open}
use Rattle.netlist.specs.declared.Name.{Name}
use Rattle.netlist.specs.Names.{Letters, is_letter_or_digit, lettered, is_name, are_names, same}
use Rattle.netlist.specs.Forms.{Part, part, closed, bracketed, Form, gate, none, declaring, declared, assigned, form_right}
use Rattle.netlist.specs.Forms.{kind_named, pins_allowed}
use Rattle.netlist.specs.Kept.{number_of, short_number, name_kept, brackets_right, brackets_kept}
use Rattle.netlist.specs.Kept.{kind_kept, names_kept, line_kept, Nothing, Input, Gate, line_in}
use Rattle.netlist.proofs.Packing.{short_same}
use Rattle.netlist.proofs.RightGates.{kind_low, pins_few}

-- A line that is given where a test says so is kept there.
pub kept_where : (b : Bool) (given : Line) → option_map line_in (then_some b given) ≡ then_some b (line_in given)
kept_where true given = refl
kept_where false given = refl

-- Names in brackets that are right.
record RightBrackets (parts : List Part) (names : List Name) : Type 0 where
  pub closes : closed parts ≡ true
  pub proper : are_names (bracketed parts) ≡ true
  pub kept : names ≡ names_kept (bracketed parts)

-- A conjunction of three fails by one of them.
fails : {P : Type 0} (a b c : Bool) → (a && (b && c)) ≡ false → (a ≡ false → P) → (b ≡ false → P) → (c ≡ false → P) → P
fails true true c e f g h = h e
fails true false c e f g h = g refl
fails false b c e f g h = f refl

module _ (parts : List Part) where
  brackets_right_lem : {names : List Name} → Some names ≡ brackets_kept parts → RightBrackets parts names
  unfolding brackets_kept brackets_right
  brackets_right_lem {names} is =
      cases (brackets_right parts)
      (λ t. let told = rw t at is in record {
        closes = and_left (closed parts) _ t;
        proper = and_left (are_names (bracketed parts)) _ (and_right (closed parts) _ t);
        kept = cc;
      })
      (λ t. let told = rw t at is in cc)

  -- Where they are not right, one of three things is wrong.
  brackets_wrong : {P : Type 0} → None ≡ brackets_kept parts → (closed parts ≡ false → P) → (are_names (bracketed parts) ≡ false → P)
      → (4 < length (bracketed parts) → P) → P
  unfolding brackets_kept brackets_right
  brackets_wrong is not_closed not_names many =
      fails (closed parts) (are_names (bracketed parts)) _
      (cases (brackets_right parts) (λ t. let told = rw t at is in cc) (λ t. t))
      not_closed not_names
      (λ t. many (leb-false (length (bracketed parts)) 4 t))

-- `INPUT(name)` and `OUTPUT(name)`.

-- Whatever the word before the bracket, the line is wrong if the name is, or if there is not exactly one.

declaring_wrong : (letters : Letters) (words : List Letters) → are_names words ≡ false → None ≡ line_kept (declaring letters words)
unfolding declaring line_kept form_right are_names
declaring_wrong letters [] e = absurd (false≢true (sym e))
declaring_wrong letters (name ∷ []) e =
    let wrong : is_name name ≡ false = sym (and-true (is_name name)) ∙ e in
    cases (same letters (ascii "INPUT")) (λ t. rw (t, wrong) refl)
    (λ t. cases (same letters (ascii "OUTPUT")) (λ u. rw (t, u, wrong) refl) (λ u. rw (t, u) refl))
declaring_wrong letters (name ∷ second ∷ rest) e = refl

declaring_many : (letters : Letters) (words : List Letters) → (length words ≡ 1 → ⊥) → None ≡ line_kept (declaring letters words)
unfolding declaring line_kept form_right
declaring_many letters [] h = refl
declaring_many letters (name ∷ []) h = absurd (h refl)
declaring_many letters (name ∷ second ∷ rest) h = refl

-- A list of one name.
pub single : (kept : List Name) (d : Name) → 1 ≤ length kept → length kept < 2 → kept ≡ get_or kept 0 d ∷ []
single [] d some few = absurd (omega arith)
single (name ∷ []) d some few = refl
single (name ∷ second ∷ rest) d some few = absurd (omega arith)

-- With one name in the brackets, the word before them decides.
declaring_one : (letters : Letters) (words : List Letters) (kept : Name) → map name_kept words ≡ kept ∷ [] → are_names words ≡ true
    → line_kept (declaring letters words)
    ≡ cond (same letters (ascii "INPUT")) (Some (Input kept)) (cond (same letters (ascii "OUTPUT")) (Some Nothing) None)
unfolding declaring line_kept form_right are_names
declaring_one letters [] kept one proper = cc
declaring_one letters (name ∷ []) kept one proper =
    let right : is_name name ≡ true = and_left (is_name name) true proper in
    let is : name_kept name ≡ kept = cc in
    cases (same letters (ascii "INPUT")) (λ t. rw (t, right, is) refl)
    (λ t. cases (same letters (ascii "OUTPUT")) (λ u. rw (t, u, right) refl) (λ u. rw (t, u) refl))
declaring_one letters (name ∷ second ∷ rest) kept one proper = cc

module _ (letters : Letters) (parts : List Part) where
  not_closed : closed parts ≡ false → None ≡ line_kept (declared letters parts)
  unfolding declared line_kept form_right
  not_closed e = rw e refl

  -- What the words in brackets make wrong is wrong whether the brackets are closed or not.
  by_words : None ≡ line_kept (declaring letters (bracketed parts)) → None ≡ line_kept (declared letters parts)
  unfolding declared line_kept form_right
  by_words e = cases (closed parts) (λ t. rw t e) not_closed

  pub declared_wrong : None ≡ brackets_kept parts → None ≡ line_kept (declared letters parts)
  declared_wrong is =
      brackets_wrong parts is not_closed
      (λ u. by_words (declaring_wrong letters (bracketed parts) u))
      (λ h. by_words (declaring_many letters (bracketed parts) (λ one. omega arith)))

  module _ {names : List Name} (is : Some names ≡ brackets_kept parts) where
    pub declared_many : (length names ≡ 1 → ⊥) → None ≡ line_kept (declared letters parts)
    declared_many other =
        let kept = (brackets_right_lem parts is).kept in
        by_words
        (declaring_many letters (bracketed parts) (λ one. other (ap length kept ∙ length-map (bracketed parts) name_kept ∙ one)))

    pub declared_right : (kept : Name) → names ≡ kept ∷ [] → lettered letters ≡ true → (number : ℕ) → number ≡ short_number letters
        → line_kept (declared letters parts)
        ≡ cond (eqb number (number_of (ascii "INPUT"))) (Some (Input kept)) (cond (eqb number (number_of (ascii "OUTPUT"))) (Some Nothing) None)
    unfolding declared lettered is_letter_or_digit within
    declared_right kept one l number n =
        let right = brackets_right_lem parts is in
        rw (
          right.closes,
          n,
          short_same letters (ascii "INPUT") l refl (omega arith) (omega arith),
          short_same letters (ascii "OUTPUT") l refl (omega arith) (omega arith),
        )
        (declaring_one letters (bracketed parts) kept (sym right.kept ∙ one) right.proper)

-- `name=KIND(name,...)`.

-- No kind has more than four pins, and what is no kind has none.

pins_many : (kind used : ℕ) → 4 < used → pins_allowed kind used ≡ false
pins_many kind used h = cases (pins_allowed kind used) (λ t. absurd (omega (arith, pins_few kind used t))) (λ t. t)

no_kind : (kind used : ℕ) → kind ≡ 0 → pins_allowed kind used ≡ false
no_kind kind used e = cases (pins_allowed kind used) (λ t. absurd (omega (arith, kind_low kind used t))) (λ t. t)

module _ (letters word : Letters) (parts : List Part) (all : List Part) (from : all ≡ part word Open ∷ parts) where
  -- The form of the line, from the bracket on.
  abbrev form : Form
  form = cond (closed parts) (gate letters word (bracketed parts)) none

  assigned_open : line_kept (assigned letters all) ≡ line_kept form
  unfolding assigned
  assigned_open = rw from refl

  gate_open : closed parts ≡ false → None ≡ line_kept form
  unfolding line_kept form_right
  gate_open e = rw e refl

  gate_wrong : form_right (gate letters word (bracketed parts)) ≡ false → None ≡ line_kept form
  unfolding line_kept
  gate_wrong e = cases (closed parts) (λ t. rw (t, e) refl) gate_open

  pins_wrong : pins_allowed (kind_named word) (length (bracketed parts)) ≡ false → None ≡ line_kept form
  unfolding form_right
  pins_wrong e = gate_wrong (and_second_fails (is_name letters) (and_second_fails (are_names (bracketed parts)) e))

  pub assigned_wrong : None ≡ brackets_kept parts → None ≡ line_kept (assigned letters all)
  unfolding form_right
  assigned_wrong is =
      brackets_wrong parts is gate_open
      (λ u. gate_wrong (and_second_fails (is_name letters) (and_first_fails _ u)))
      (λ h. pins_wrong (pins_many (kind_named word) (length (bracketed parts)) h))
      ∙ sym assigned_open

  pub assigned_unknown : None ≡ kind_kept word → None ≡ line_kept (assigned letters all)
  assigned_unknown is =
      pins_wrong (no_kind _ _ (cases (eqb (kind_named word) 0) (eqb-true (kind_named word) 0) (λ t. let told = rw t at is in cc)))
      ∙ sym assigned_open

  -- What the code makes of it, by its tests of the name and of the pin count.
  pub assigned_right : {names : List Name} {kind : ℕ} {named counted : Bool} → Some names ≡ brackets_kept parts → Some kind ≡ kind_kept word
      → named ≡ is_name letters → counted ≡ pins_allowed kind (length names)
      → then_some (named && counted) (Gate (record { kind = kind; name = name_kept letters; pins = names })) ≡ line_kept (assigned letters all)
  unfolding line_kept form_right
  assigned_right {names} {kind} {named} {counted} is kind_is named_is counted_is =
      let right = brackets_right_lem parts is in
      let known : kind ≡ kind_named word =
      cases (eqb (kind_named word) 0) (λ t. let told = rw t at kind_is in cc) (λ t. let told = rw t at kind_is in cc) in
      rw (named_is, counted_is, known, right.kept, right.closes, right.proper, length-map (bracketed parts) name_kept)
      (cases (is_name letters && pins_allowed (kind_named word) (length (bracketed parts))) (λ t. rw t refl) (λ t. rw t refl))
      ∙ sym assigned_open
