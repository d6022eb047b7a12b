-- Laws of the verdict on a line, as code comes to it from the line as it is kept.
-- Assumes nothing.
use Prim.Native.Nat.{ℕ}
use mathlib.Core.Bool.{Bool, true, false, not, false≢true, ◌&&◌}
use mathlib.Core.List.{List, [], ◌∷◌, ◌++◌}
use mathlib.Core.Path.{◌≡◌, refl, ap, ◌∙◌}
use Rattle.std.specs.Prelude.{Err}
use Rattle.block.specs.declared.verdict.Refusal.{Refusal}
use Rattle.block.specs.Verdict.{check, verdict, refusal, Verdict, Accepted}
use Rattle.block.specs.declared.verdict.Reason.TheVariants.{WrongLine, WrongName}
use Rattle.block.proofs.Verdicts.{judged, refused_here, judged_later}
use Rattle.netlist.specs.Names.{Letters, is_name, known, all_known}
use Rattle.netlist.specs.Forms.{Form, empty, input, output, gate, none, form_right, names_of}
use Rattle.netlist.specs.Kept.{KeptGate, Nothing, Input, Gate, right_kept}
use Rattle.netlist.specs.declared.Name.{Name}
use Rattle.netlist.proofs.RightGates.{gate_named, gate_pins}
use Rattle.bench.specs.Checks.{names_right, line_checks}
use Rattle.bench.specs.Held.{KnownIn, AllKnownIn, JudgedIn}
use Rattle.bench.proofs.KeptLines.{input_told, gate_told}

module _ (number : ℕ) (names : List Letters) (gates : Bool) where
  -- A line that is not right by itself fails check 17.
  pub wrong_line_lem : (form : Form) → form_right form ≡ false → Err (refusal WrongLine number) ≡ verdict (line_checks number names gates form)
  unfolding line_checks verdict
  wrong_line_lem form wrong = rw wrong refl

  -- A right line that gives no record passes both checks.
  pub no_record : (form : Form) → form_right form ≡ true → Nothing ≡ right_kept form → Accepted ≡ verdict (line_checks number names gates form)
  unfolding line_checks verdict form_right names_right
  no_record empty right e = refl
  no_record (input name) right e = cc
  no_record (output name) right e = rw right refl
  no_record (gate name word pins) right e = cc
  no_record none right e = absurd (false≢true right)

  -- An input's line, by its two checks, and from whether its name is new.
  module _ (word : Letters) {v : Verdict} (proper : is_name word ≡ true) (first : v ≡ verdict (check WrongLine number (not gates) ∷ [])) where
    pub input_misplaced : {r : Refusal} → v ≡ Err r → Err r ≡ verdict (line_checks number names gates (input word))
    unfolding line_checks form_right
    input_misplaced e = refused_here WrongLine number first (rw proper refl) _ e

    pub input_judged : {new : Bool} {w : Verdict} → v ≡ Accepted → new ≡ not (known word names) → w ≡ verdict (check WrongName number new ∷ [])
        → w ≡ verdict (line_checks number names gates (input word))
    unfolding line_checks form_right names_right
    input_judged e is second = judged_later WrongLine number first (rw proper refl) _ e (judged WrongName number second is)

  -- A right gate's line, from whether its name is new and its pins are known.
  pub gate_judged : (name word : Letters) (pins : List Letters) {new found : Bool} {v : Verdict} → form_right (gate name word pins) ≡ true
      → new ≡ not (known name names) → found ≡ all_known pins names → v ≡ verdict (check WrongName number (new && found) ∷ [])
      → v ≡ verdict (line_checks number names gates (gate name word pins))
  unfolding line_checks verdict names_right
  gate_judged name word pins right new_is found_is made = made ∙ rw (right, new_is, found_is) refl

-- Lines after the 1,024th record.
module _ (forms : List Form) (kept : List Name) (number : ℕ) (gates : Bool) where
  pub judged_none : JudgedIn forms kept Nothing number gates Accepted
  judged_none names form held right is formed = no_record number (names ++ names_of forms) gates form formed is

  module _ {name : Name} {v : Verdict} (first : v ≡ verdict (check WrongLine number (not gates) ∷ [])) where
    pub judged_misplaced : {r : Refusal} → v ≡ Err r → JudgedIn forms kept (Input name) number gates (Err r)
    judged_misplaced {r} e names form held right is formed =
        input_told (λ form. Err r ≡ verdict (line_checks number (names ++ names_of forms) gates form)) form formed is
        (λ word proper named. input_misplaced number (names ++ names_of forms) gates word proper first e)

    pub judged_input : {again : Bool} {w : Verdict} → v ≡ Accepted → KnownIn forms kept name again
        → w ≡ verdict (check WrongName number (not again) ∷ []) → JudgedIn forms kept (Input name) number gates w
    judged_input {w = w} e one second names form held right is formed =
        input_told (λ form. w ≡ verdict (line_checks number (names ++ names_of forms) gates form)) form formed is
        (λ word proper named.
        input_judged number (names ++ names_of forms) gates word proper first e (ap not (one names word held right proper named)) second)

  pub judged_gate : {given : KeptGate} {again found : Bool} {v : Verdict} → KnownIn forms kept given.name again
      → AllKnownIn forms kept given.pins found → v ≡ verdict (check WrongName number (not again && found) ∷ [])
      → JudgedIn forms kept (Gate given) number gates v
  judged_gate {v = v} one all first names form held right is formed =
      gate_told (λ form. v ≡ verdict (line_checks number (names ++ names_of forms) gates form)) form formed is
      (λ name word pins fits same.
      gate_judged number (names ++ names_of forms) gates name word pins fits
      (ap not (one names name held right (gate_named name word pins fits) (ap (λ g. g.name) same)))
      (all names pins held right (gate_pins name word pins fits) (ap (λ g. g.pins) same))
      first)
