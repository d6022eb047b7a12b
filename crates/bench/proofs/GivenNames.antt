-- Laws of the names that lines give: whether a name is one of them, or one of those held, as code tests it.
-- Assumes nothing.
use Prim.Native.Nat.{ℕ, suc, ◌+◌, ◌-◌, ◌<◌}
use mathlib.Core.Bool.{Bool, true, false, false≢true, ◌||◌, or-false}
use mathlib.Core.List.{List, [], ◌∷◌, ◌++◌}
use mathlib.Core.Path.{◌≡◌, refl, sym, ap, ◌∙◌}
use native.Mathlib.Omega.{arith}
use lib.ListN.{take}
use lib.Seq.{take-nil}
use Rattle.std.proofs.Common.{Option}
use Rattle.std.specs.Prelude.{is_some}
use Rattle.laws.proofs.Tests.{and_left, and_right}
use Rattle.netlist.specs.Names.{Letters, is_name, same, known}
use Rattle.netlist.specs.Forms.{Form, empty, input, output, gate, none, line_form, forms_of, form_right, given_by, names_of}
use Rattle.netlist.specs.Kept.{FirstLine, name_kept, same_name, KeptLine, line_kept}
use Rattle.netlist.specs.declared.Name.{Name}
use Rattle.netlist.proofs.Packing.{kept_same}
use Rattle.netlist.proofs.KnownWords.{same_turned, known_append}
use Rattle.netlist.proofs.RightGates.{gate_named}
use Rattle.bench.specs.Held.{Held, all_right, gives, GivenIn, KnownIn}
use Rattle.bench.proofs.Lines.{forms_at, no_forms}
use Rattle.bench.proofs.Lookups.{Placed, known_by_place}

-- Whether a right line gives a name, as code tests it on the line as it is kept.
module _ (word : Letters) (proper : is_name word ≡ true) where
  same_kept : (name : Letters) → is_name name ≡ true → same_name (name_kept name) (name_kept word) ≡ (same word name || false)
  same_kept name named =
      kept_same name word named proper ∙ same_turned name word ∙ sym (or-false (same word name))

  given_kept : (form : Form) → form_right form ≡ true → gives (line_kept form) (name_kept word) ≡ known word (given_by form)
  unfolding line_kept form_right given_by known
  given_kept empty right = refl
  given_kept (input name) right = rw right (same_kept name right)
  given_kept (output name) right = rw right refl
  given_kept (gate name kind pins) right = rw right (same_kept name (gate_named name kind pins right))
  given_kept none right = absurd (false≢true right)

-- The same of the lines from it on.
given_first : (form : Form) (rest : List Form) (word : Letters) → is_name word ≡ true → all_right (form ∷ rest) ≡ true
    → (gives (line_kept form) (name_kept word) || known word (names_of rest)) ≡ known word (names_of (form ∷ rest))
unfolding all_right names_of
given_first form rest word proper right =
    let here = and_left (form_right form) (all_right rest) right in
    rw (given_kept word proper form here) (sym (known_append word (given_by form) (names_of rest)))

pub given_nowhere : (name : Name) → GivenIn [] name false
unfolding names_of known
given_nowhere name word proper is right = refl

-- The lines that are left of some first ones: none, or the next one and those after it.

pub none_left : {text : List ℕ} (n : ℕ) → text ≡ [] → take n (forms_of text) ≡ []
none_left n e = rw (no_forms e) (take-nil n)

module _ {text line rest : List ℕ} (first : FirstLine text line rest) (lines passed : ℕ) (h : passed < lines) (name : Name)
    {read : Option KeptLine} {b : Bool}
    (is : read ≡ line_kept (line_form line)) (tested : b ≡ gives read name) where
  abbrev left : List Form
  left = take (lines - (passed + 1)) (forms_of rest)

  first_left : take (lines - passed) (forms_of text) ≡ line_form line ∷ left
  first_left =
      let e : lines - passed ≡ suc (lines - (passed + 1)) = omega arith in
      rw (e, forms_at first) refl

  by_first : (word : Letters) → is_name word ≡ true → name ≡ name_kept word
      → all_right (take (lines - passed) (forms_of text)) ≡ true
      → (all_right left ≡ true) × ((b || known word (names_of left)) ≡ known word (names_of (take (lines - passed) (forms_of text))))
  unfolding all_right
  by_first word proper named right =
      let form = line_form line in
      let all : all_right (form ∷ left) ≡ true = rw first_left at right in
      (and_right (form_right form) (all_right left) all, rw (first_left, tested, is, named) (given_first form left word proper all))

  pub given_here : b ≡ true → GivenIn (take (lines - passed) (forms_of text)) name true
  given_here e word proper named right = rw e at (by_first word proper named right).1

  pub given_later : b ≡ false → (r : Bool) → GivenIn left name r → GivenIn (take (lines - passed) (forms_of text)) name r
  given_later e r later word proper named right =
      let first = by_first word proper named right in
      later word proper named first.0 ∙ rw e at first.1

-- A name is known that has a place among those held, or else that the lines give.
module _ (forms : List Form) {kept : List Name} {name : Name} {place : Option ℕ} (placed : Placed kept name place) where
  by_place : (names : List Letters) (word : Letters) → Held names kept → is_name word ≡ true → name ≡ name_kept word
      → (is_some place || known word (names_of forms)) ≡ known word (names ++ names_of forms)
  by_place names word held proper named =
      ap (λ b. b || known word (names_of forms)) (known_by_place placed names word held proper named)
      ∙ sym (known_append word names (names_of forms))

  pub known_held : is_some place ≡ true → KnownIn forms kept name true
  known_held h names word held right proper named = rw h at by_place names word held proper named

  pub known_given : is_some place ≡ false → (r : Bool) → GivenIn forms name r → KnownIn forms kept name r
  known_given h r given names word held right proper named =
      given word proper named right ∙ rw h at by_place names word held proper named
