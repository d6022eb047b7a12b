-- Laws of a text all of whose lines are taken: the refusal that it comes to, or all its records.
-- Assumes nothing.
use Prim.Native.Nat.{ℕ, ◌+◌, ◌*◌, ◌/◌, ◌%◌, ◌≤◌, ◌<◌}
use mathlib.Core.Bool.{Bool, true, false, not}
use mathlib.Core.List.{List, [], ◌∷◌, ◌++◌, append-nil}
use mathlib.Core.Logic.{⊎_elim}
use mathlib.Core.Path.{◌≡◌, refl, sym, ap, ◌∙◌}
use native.Mathlib.Nat.{eq-or-lt_of_le}
use native.Mathlib.Omega.{arith}
use lib.Dec.{leb}
use lib.ListN.{length, length-append}
use lib.Seq.{length-take-le}
use borrow.Author.Tests.{eq-eqb, lt-leb, leb-true, leb-false}
use Rattle.std.specs.Prelude.{Result, Ok, Err}
use Rattle.block.specs.Record.{File}
use Rattle.block.specs.Verdict.{check, verdict, refusal, Accepted}
use Rattle.block.specs.Refusals.{file_checks, read_checks}
use Rattle.block.specs.declared.verdict.Reason.TheVariants.{TooManyRecords}
use Rattle.block.specs.declared.verdict.Refusal.{Refusal}
use Rattle.block.proofs.Verdicts.{apart, all_passed, refused_first, accepted_first}
use Rattle.netlist.specs.Forms.{Form, forms_of, names_of}
use Rattle.bench.specs.declared.Table.{Table}
use Rattle.bench.specs.Checks.{lines_from}
use Rattle.bench.specs.Records.{records_from}
use Rattle.bench.specs.Held.{held_names, made_records, LinesTaken, JudgedLater, TextTaken}
use Rattle.bench.proofs.Told.{accepted_told, refused_told}
use Rattle.bench.proofs.Lines.{no_forms}
use Rattle.bench.proofs.LineAmong.{records_length}

-- More than 1,024 records pass check 1 and fail check 2.
too_many : (file : File) (n : ℕ) → length file ≡ 20 * n → 1024 < n → verdict (read_checks file) ≡ Err (refusal TooManyRecords 0)
unfolding read_checks file_checks verdict
too_many file n e h =
    rw (eq-eqb (length file % 20) 0 (omega arith), lt-leb (length file / 20) 1024 (omega arith)) refl

pub no_bytes : (l : List ℕ) → length l ≡ 0 → l ≡ []
no_bytes [] e = refl
no_bytes (x ∷ l) e = absurd (omega arith)

module _ (text list : List ℕ) (table : Table) where
  abbrev records : File
  records = records_from list [] (forms_of text)

  refused_with_lem : (q : Refusal) → verdict (lines_from 1 [] false (forms_of text) ++ read_checks records) ≡ Err q
      → TextTaken text list table (Err q)
  refused_with_lem q e = record { refused = λ r told. e ∙ told; accepted = λ told. apart _ told }

  pub refused_by_lines : (q : Refusal) → verdict (lines_from 1 [] false (forms_of text)) ≡ Err q → TextTaken text list table (Err q)
  refused_by_lines q e = refused_with_lem q (refused_first _ _ q e)

  accepted_with : verdict (lines_from 1 [] false (forms_of text)) ≡ Accepted → records ≡ made_records table → TextTaken text list table Accepted
  accepted_with e is = record { refused = λ q told. apart _ (sym told); accepted = λ told. (e, is) }

-- Lines are left only where there are 1,024 records.
pub all_full : {count : ℕ} {left : List ℕ} → count ≤ 1024 → (count < 1024 → left ≡ []) → (length left ≡ 0 → ⊥) → count ≡ 1024
all_full few ended left = ⊎_elim (λ e. e) (λ fewer. absurd (left (ap length (ended fewer)))) (eq-or-lt_of_le few)

module _ {text list rest : List ℕ} {table : Table} {number : ℕ} (so_far : LinesTaken text list table rest number) where
  -- All lines are taken.
  pub text_ended : rest ≡ [] → TextTaken text list table Accepted
  unfolding lines_from records_from
  text_ended e =
      let nothing = no_forms e in
      accepted_with text list table
      (so_far.judged ∙ ap (λ forms. verdict (lines_from number so_far.names table.gates forms)) nothing ∙ sym all_passed)
      (so_far.made ∙ ap (λ forms. made_records table ++ records_from list so_far.names forms) nothing ∙ append-nil (made_records table))

  -- Lines are left after the 1,024th record, and are judged.
  module _ {later : Result Bool Refusal} (full : table.count ≡ 1024) (sized : length table.records ≡ 20480)
      (judged : JudgedLater (forms_of rest) (held_names table) number table.gates later) where
    abbrev left : List Form
    left = forms_of rest

    pub later_refused : {q : Refusal} → later ≡ Err q → TextTaken text list table (Err q)
    later_refused {q} e =
        refused_by_lines text list table q (so_far.judged ∙ refused_told _ _ (sym e ∙ judged so_far.names so_far.held))

    -- All of them are accepted: where one of them gives a record, there are too many.
    later_accepted : {more : Bool} → later ≡ Ok more
        → (verdict (lines_from 1 [] false (forms_of text)) ≡ Accepted) × (more ≡ leb 1 (length (names_of left)))
    later_accepted e =
        let told = accepted_told _ (sym e ∙ judged so_far.names so_far.held) in
        (so_far.judged ∙ told.0, told.1)

    pub later_gives : (more : Bool) → later ≡ Ok more → TextTaken text list table (verdict (check TooManyRecords 0 (not more) ∷ []))
    unfolding verdict
    later_gives true e =
        let accepted = later_accepted e in
        let some : 1 ≤ length (names_of left) = leb-true _ _ (sym accepted.1) in
        let first : length (made_records table) ≡ 20480 = length-take-le (20 * table.count) table.records (omega arith) ∙ omega arith in
        let all : length (records_from list [] (forms_of text)) ≡ 20 * (1024 + length (names_of left)) =
        ap length so_far.made ∙ length-append (made_records table) _ ∙ omega (arith, records_length list so_far.names left) in
        refused_with_lem text list table (refusal TooManyRecords 0)
        (accepted_first (lines_from 1 [] false (forms_of text)) (read_checks (records_from list [] (forms_of text))) accepted.0
        ∙ too_many (records_from list [] (forms_of text)) (1024 + length (names_of left)) all (omega arith))
    later_gives false e =
        let accepted = later_accepted e in
        let few : length (names_of left) < 1 = leb-false _ _ (sym accepted.1) in
        let nothing : records_from list so_far.names left ≡ [] = no_bytes _ (omega (arith, records_length list so_far.names left)) in
        accepted_with text list table accepted.0
        (so_far.made ∙ ap (λ l. made_records table ++ l) nothing ∙ append-nil (made_records table))
