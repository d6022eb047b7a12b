-- Laws of lines that are judged and taken one after the other.
-- Assumes nothing.
use Prim.Native.Nat.{ℕ, ◌+◌}
use mathlib.Core.Bool.{Bool, false, ◌||◌}
use mathlib.Core.List.{List, [], ◌∷◌, ◌++◌, map, append_assoc}
use mathlib.Core.Path.{◌≡◌, refl, sym, ap, ◌∙◌}
use native.Mathlib.Numerals.{add-one}
use native.Mathlib.Omega.{arith}
use Rattle.std.specs.Prelude.{Err}
use Rattle.block.specs.Verdict.{verdict, Verdict, Accepted}
use Rattle.block.specs.declared.verdict.Refusal.{Refusal}
use Rattle.block.proofs.Verdicts.{refused_first, accepted_first}
use Rattle.netlist.specs.Lines.{lines_of}
use Rattle.netlist.specs.Names.{Letters, are_names}
use Rattle.netlist.specs.Forms.{Form, line_form, forms_of, given_by, is_gate}
use Rattle.netlist.specs.Kept.{FirstLine}
use Rattle.bench.specs.declared.Table.{Table}
use Rattle.bench.specs.Checks.{line_checks, lines_from}
use Rattle.bench.specs.Records.{record_of, records_from}
use Rattle.bench.specs.Held.{made_records, LineRead, LinesTaken, Begun}

-- The lines of a text: the first one, and those after it.
pub forms_at : {text line rest : List ℕ} → FirstLine text line rest → forms_of text ≡ line_form line ∷ forms_of rest
forms_at first = ap (map line_form) first.is

-- An empty text has no line.
pub no_forms : {text : List ℕ} → text ≡ [] → forms_of text ≡ []
unfolding lines_of
no_forms e = rw e refl

-- The verdict on lines, by that on the first of them.
module _ (number : ℕ) (names : List Letters) (gates : Bool) (form : Form) (rest : List Form) where
  pub lines_refused : (r : Refusal) → verdict (line_checks number names gates form) ≡ Err r
      → verdict (lines_from number names gates (form ∷ rest)) ≡ Err r
  unfolding lines_from
  lines_refused r e = refused_first (line_checks number names gates form) _ r e

  pub lines_next : verdict (line_checks number names gates form) ≡ Accepted
      → verdict (lines_from number names gates (form ∷ rest))
      ≡ verdict (lines_from (number + 1) (names ++ given_by form) (gates || is_gate form) rest)
  unfolding lines_from
  lines_next e = rw (add-one number) (accepted_first (line_checks number names gates form) _ e)

-- No line is taken yet.
pub none_taken : (text list : List ℕ) (table : Table) → table.count ≡ 0 → table.gates ≡ false → LinesTaken text list table text 1
unfolding are_names
none_taken text list table start gates =
    record {
      names = [];
      held = record { proper = refl; is = rw start refl };
      judged = rw gates refl;
      made = rw start refl;
      numbered = omega arith;
    }

-- A line more.
module _ {text list : List ℕ} {table table' : Table} {left line rest : List ℕ} {number : ℕ} {v : Verdict}
    (taken : LinesTaken text list table left number) (first : FirstLine left line rest)
    (read : LineRead (line_form line) number list table table' v) where
  pub taken_refused : {r : Refusal} → v ≡ Err r → Begun text list table' (Err r)
  taken_refused {r} e =
      let t = read taken.names taken.held in
      record {
        refused = λ q same.
            taken.judged ∙ ap (λ forms. verdict (lines_from number taken.names table.gates forms)) (forms_at first)
            ∙ lines_refused number taken.names table.gates _ _ r (sym t.judged ∙ e)
            ∙ (let e : r ≡ q = cc in ap Err e);
        accepted = λ reached same. absurd (let z : ◌≡◌ {A = ℕ} 0 1 = cc in omega arith);
      }

  pub taken_next : v ≡ Accepted → LinesTaken text list table' rest (number + 1)
  unfolding records_from
  taken_next e =
      let t = read taken.names taken.held in
      let a = t.added e in
      let names = taken.names in
      let form = line_form line in
      let numbered = taken.numbered in
      let shorter = first.shorter in
      record {
        names = names ++ given_by form;
        held = a.held;
        judged = taken.judged ∙ ap (λ forms. verdict (lines_from number names table.gates forms)) (forms_at first)
            ∙ lines_next number names table.gates _ _ (sym t.judged ∙ e)
            ∙ ap (λ after. verdict (lines_from (number + 1) (names ++ given_by form) after (forms_of rest))) (sym a.gates);
        made = taken.made ∙ ap (λ forms. made_records table ++ records_from list names forms) (forms_at first)
            ∙ sym (append_assoc (made_records table) (record_of list names form) (records_from list (names ++ given_by form) (forms_of rest)))
            ∙ ap (λ l. l ++ records_from list (names ++ given_by form) (forms_of rest)) (sym a.made);
        numbered = omega arith;
      }
