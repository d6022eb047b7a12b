-- Laws of what is answered and handed over, by the verdict.
-- Assumes nothing.
use Rattle.block.specs.declared.Counts.{Counts}
use Prim.Native.Nat.{ℕ}
use mathlib.Core.Bool.{false}
use mathlib.Core.List.{List, [], ◌++◌}
use mathlib.Core.Path.{◌≡◌, refl, sym, ap, subst, ◌∙◌}
use lib.ListN.{length, take, drop}
use lib.Seq.{take-length}
use Rattle.std.specs.Prelude.{Result, Ok, Err}
use Rattle.block.specs.Record.{File}
use Rattle.block.specs.Verdict.{verdict, Verdict, Accepted}
use Rattle.block.specs.Refusals.{read_checks, read_of}
use Rattle.block.specs.declared.verdict.Refusal.{Refusal}
use Rattle.block.proofs.Verdicts.{refused_first, accepted_first}
use Rattle.block.proofs.Accepted.{counts_of, refused_verdict}
use Rattle.netlist.specs.Forms.{forms_of}
use Rattle.bench.specs.declared.Table.{Table}
use Rattle.bench.specs.Checks.{lines_from}
use Rattle.bench.specs.Records.{records_from}
use Rattle.bench.specs.Bench.{Handed, Benched, BenchArguments, bench_records, lent_checks, text_checks, bench_checks, bench_verdict, overlaid}
use Rattle.bench.specs.Held.{made_records, TextTaken}

module _ (made : File) (given : List ℕ) where
  -- A refusal is the answer, and nothing is changed.
  handed_refusal : {v : Verdict} (r : Refusal) → v ≡ Err r → Handed v made given (Err r) given
  handed_refusal r e = rw e (record { answered = refl; written = refl })

  -- Two verdicts that are the same ask the same.
  handed_by : {v w : Verdict} {answered : Result ℕ Refusal} {records' : List ℕ} → v ≡ w
      → Handed v made given answered records' → Handed w made given answered records'
  handed_by e h = rw e at h

  -- What Read answers on the records that were made.

  pub read_refuses : {read : Result Counts Refusal} (r : Refusal) → read ≡ read_of made → read ≡ Err r
      → Handed (verdict (read_checks made)) made given (Err r) given
  unfolding read_of
  read_refuses r is told = handed_refusal r (refused_verdict made _ r (sym is ∙ told))

  pub read_counts : {read : Result Counts Refusal} {found : Counts} {records' : List ℕ} → read ≡ read_of made → read ≡ Ok found
      → records' ≡ take (length made) made ++ drop (length made) given
      → Handed (verdict (read_checks made)) made given (Ok found.nets) records'
  unfolding read_of overlaid
  read_counts {found = found} is told copied =
      let told = counts_of made (verdict (read_checks made)) found.nets found.inputs (sym is ∙ told) in
      let whole = ap (λ l. l ++ drop (length made) given) (take-length made) in
      rw told.0 (record { answered = ap Ok (sym told.1); written = copied ∙ whole })

-- The lines' refusal, or what Read says of their records, is what the call comes to once all that is lent is right.
module _ (given : BenchArguments) {table : Table} {v : Verdict} (all : TextTaken given.text given.list table v) where
  pub text_refused : (q : Refusal) → v ≡ Err q
      → Handed (verdict (text_checks given)) (bench_records given) given.records (Err q) given.records
  unfolding text_checks bench_records
  text_refused q e = handed_refusal _ _ q (all.refused q e)

  pub text_made : {made : File} {answered : Result ℕ Refusal} {records' : List ℕ} → v ≡ Accepted → made ≡ made_records table
      → Handed (verdict (read_checks made)) made given.records answered records'
      → Handed (verdict (text_checks given)) (bench_records given) given.records answered records'
  unfolding text_checks bench_records
  text_made {made} {answered} {records'} e is h =
      let a = all.accepted e in
      let records = records_from given.list [] (forms_of given.text) in
      handed_by _ _ (sym (accepted_first (lines_from 1 [] false (forms_of given.text)) (read_checks records) a.0))
      (subst (λ m. Handed (verdict (read_checks m)) m given.records answered records') (is ∙ sym a.1) h)

-- The checks on what is lent come first.
module _ (given : BenchArguments) where
  pub lent_refused : {q : Refusal} → verdict (lent_checks given) ≡ Err q → Benched given (Err q) given.records
  unfolding bench_verdict bench_checks
  lent_refused {q} e = handed_refusal _ _ q (refused_first (lent_checks given) (text_checks given) q e)

  pub lent_accepted : {answered : Result ℕ Refusal} {records' : List ℕ} → verdict (lent_checks given) ≡ Accepted
      → Handed (verdict (text_checks given)) (bench_records given) given.records answered records' → Benched given answered records'
  unfolding bench_verdict bench_checks
  lent_accepted e h = handed_by _ _ (sym (accepted_first (lent_checks given) (text_checks given) e)) h
