-- Laws of the lines after the 1,024th record, judged one after the other.
-- Assumes nothing.
use Prim.Native.Nat.{ℕ, suc, ◌+◌, ◌≤◌}
use mathlib.Core.Bool.{Bool, true, false, ◌||◌}
use mathlib.Core.List.{List, [], ◌∷◌, ◌++◌, append_assoc, append-nil}
use mathlib.Core.Path.{◌≡◌, refl, sym, ap, subst, ◌∙◌}
use native.Mathlib.Nat.{add-zero}
use native.Mathlib.Omega.{arith}
use lib.Dec.{leb}
use lib.ListN.{length, take, length-append}
use lib.Seq.{take_at}
use borrow.Author.Tests.{le-leb}
use Rattle.std.proofs.Common.{Option, Some, None}
use Rattle.std.specs.Prelude.{is_some, Ok, Err}
use Rattle.laws.proofs.Tests.{and_left, and_right, and_both}
use Rattle.block.specs.Verdict.{verdict, refusal, Verdict, Accepted}
use Rattle.block.specs.declared.verdict.Reason.TheVariants.{WrongLine}
use Rattle.block.specs.declared.verdict.Refusal.{Refusal}
use Rattle.block.proofs.Verdicts.{all_passed}
use Rattle.operation.specs.Operation.{answer_after}
use Rattle.netlist.specs.Names.{Letters}
use Rattle.netlist.specs.Forms.{Form, line_form, forms_of, form_right, given_by, names_of, is_gate}
use Rattle.netlist.specs.Kept.{FirstLine, KeptLine, right_kept, line_kept, line_name, line_is_gate}
use Rattle.netlist.specs.declared.Name.{Name}
use Rattle.bench.specs.Checks.{line_checks, lines_from}
use Rattle.bench.specs.Held.{Held, all_right, JudgedIn, JudgedLater}
use Rattle.bench.proofs.Lines.{forms_at, no_forms, lines_refused, lines_next}
use Rattle.bench.proofs.KeptLines.{line_wrong, line_right, gives_lem, gate_lem}
use Rattle.bench.proofs.Judged.{wrong_line_lem}
use Rattle.bench.proofs.LineAmong.{names_append}

names_more : (before : List Form) (form : Form) → names_of (before ++ (form ∷ [])) ≡ names_of before ++ given_by form
unfolding names_of
names_more before form = names_append before (form ∷ []) ∙ ap (λ names. names_of before ++ names) (append-nil (given_by form))

right_more : (before : List Form) (form : Form) → all_right before ≡ true → form_right form ≡ true → all_right (before ++ (form ∷ [])) ≡ true
unfolding all_right
right_more [] form e right = and_both right refl
right_more (first ∷ before) form e right =
    and_both (and_left (form_right first) (all_right before) e)
    (right_more before form (and_right (form_right first) (all_right before) e) right)

some_both : (s t : List Letters) → leb 1 (length (s ++ t)) ≡ (leb 1 (length s) || leb 1 (length t))
some_both [] t = refl
some_both (word ∷ s) t =
    le-leb 1 (suc (length (s ++ t))) (omega arith) ∙ ap (λ b. b || leb 1 (length t)) (sym (le-leb 1 (suc (length s)) (omega arith)))

-- Lines of a text judged, of which `rest` is left, all of them accepted.
pub record LinesJudged (text : List ℕ) (kept : List Name) (number : ℕ) (gates : Bool) (rest : List ℕ) (passed : ℕ) (after more : Bool) : Type 0 where
  pub before : List Form
  pub counted : length before ≡ passed
  pub split : forms_of text ≡ before ++ forms_of rest
  pub right : all_right before ≡ true
  pub judged : (names : List Letters) → Held names kept
      → verdict (lines_from number names gates (forms_of text))
      ≡ verdict (lines_from (number + passed) (names ++ names_of before) after (forms_of rest))
  pub given : more ≡ leb 1 (length (names_of before))
  pub counted_on : passed + length rest ≤ length text

pub none_judged : (text : List ℕ) (kept : List Name) (number : ℕ) (gates : Bool) → LinesJudged text kept number gates text 0 gates false
unfolding all_right names_of
none_judged text kept number gates =
    record {
      before = [];
      counted = refl;
      split = refl;
      right = refl;
      judged = λ names held. rw (add-zero number, append-nil names) refl;
      given = refl;
      counted_on = omega arith;
    }

module _ {text : List ℕ} {kept : List Name} {number : ℕ} {gates : Bool} {rest : List ℕ} {passed : ℕ} {after more : Bool}
    (j : LinesJudged text kept number gates rest passed after more) where
  -- The answer is by the verdict.
  answered : {v w : Verdict} → v ≡ w
      → answer_after v (leb 1 (length (names_of (forms_of text)))) ≡ answer_after w (leb 1 (length (names_of (forms_of text))))
  answered e = rw e refl

  -- What is left decides.
  by_left : (names : List Letters) → Held names kept → {left : List Form} → forms_of rest ≡ left
      → verdict (lines_from number names gates (forms_of text))
      ≡ verdict (lines_from (number + passed) (names ++ names_of j.before) after left)
  by_left names held e =
      j.judged names held ∙ ap (λ forms. verdict (lines_from (number + passed) (names ++ names_of j.before) after forms)) e

  -- All lines are judged.
  pub all_judged : rest ≡ [] → JudgedLater (forms_of text) kept number gates (Ok more)
  unfolding lines_from
  all_judged e names held =
      let none = no_forms e in
      let all : forms_of text ≡ j.before = j.split ∙ ap (λ forms. j.before ++ forms) none ∙ append-nil j.before in
      ap Ok (j.given ∙ ap (λ forms. leb 1 (length (names_of forms))) (sym all)) ∙ answered (all_passed ∙ sym (by_left names held none))

  -- A line more.
  module _ {bytes next : List ℕ} {read : Option KeptLine} (here : FirstLine rest bytes next) (is : read ≡ line_kept (line_form bytes)) where
    abbrev form : Form
    form = line_form bytes

    pub form_refused : read ≡ None → JudgedLater (forms_of text) kept number gates (Err (refusal WrongLine (number + passed)))
    form_refused e names held =
        let wrong = line_wrong form is e in
        answered (sym (by_left names held (forms_at here)
        ∙ lines_refused _ _ _ form (forms_of next) _ (sym (wrong_line_lem (number + passed) (names ++ names_of j.before) after form wrong))))

    module _ {line : KeptLine} {v : Verdict} (some : read ≡ Some line)
        (judge : JudgedIn (take passed (forms_of text)) kept line (number + passed) after v) where
      formed : form_right form ≡ true
      formed = (line_right form is some).0

      as_kept : line ≡ right_kept form
      as_kept = (line_right form is some).1

      line_judged : (names : List Letters) → Held names kept
          → v ≡ verdict (line_checks (number + passed) (names ++ names_of j.before) after form)
      line_judged names held =
          let first : take passed (forms_of text) ≡ j.before =
          ap (take passed) j.split ∙ take_at j.before (forms_of rest) passed j.counted in
          let judged : JudgedIn j.before kept line (number + passed) after v =
          subst (λ forms. JudgedIn forms kept line (number + passed) after v) first judge in
          judged names form held j.right as_kept formed

      pub line_refused : {r : Refusal} → v ≡ Err r → JudgedLater (forms_of text) kept number gates (Err r)
      line_refused {r} e names held =
          answered (sym (by_left names held (forms_at here) ∙ lines_refused _ _ _ form (forms_of next) r (sym (line_judged names held) ∙ e)))

      pub judged_next : v ≡ Accepted
          → LinesJudged text kept number gates next (passed + 1) (after || line_is_gate line)
          (more || is_some (line_name line))
      judged_next e =
          let gate : line_is_gate line ≡ is_gate form = ap line_is_gate as_kept ∙ gate_lem form in
          let given : is_some (line_name line) ≡ leb 1 (length (given_by form)) =
          ap (λ l. is_some (line_name l)) as_kept ∙ gives_lem form in
          let number_next : number + (passed + 1) ≡ number + passed + 1 = omega arith in
          let names_are = names_more j.before form in
          let counted_on = j.counted_on in
          let shorter = here.shorter in
          record {
            before = j.before ++ (form ∷ []);
            counted = length-append j.before (form ∷ []) ∙ ap (λ n. n + 1) j.counted;
            split = j.split ∙ ap (λ forms. j.before ++ forms) (forms_at here) ∙ sym (append_assoc j.before (form ∷ []) (forms_of next));
            right = right_more j.before form j.right formed;
            judged = λ names held.
                rw (number_next, names_are, gate, ← append_assoc names (names_of j.before) (given_by form))
                (by_left names held (forms_at here) ∙ lines_next _ _ _ form (forms_of next) (sym (line_judged names held) ∙ e));
            given = rw (j.given, given, names_are) (sym (some_both (names_of j.before) (given_by form)));
            counted_on = omega arith;
          }
