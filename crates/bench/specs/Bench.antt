-- Bench netlists: the call (request 1).
use Rattle.std.specs.Prelude.{ℕ, false, List, [], ◌++◌, ◌≡◌, length, drop, Result}
use Rattle.block.specs.Record.{File, net_count}
use Rattle.block.specs.Refusals.{read_checks}
use Rattle.block.specs.Verdict.{Check, verdict, Verdict}
use Rattle.block.specs.declared.verdict.Refusal.{Refusal}
use Rattle.operation.specs.Operation.{answer_after, buffer_after}
use Rattle.netlist.specs.Forms.{forms_of}
use Rattle.bench.specs.Checks.{size_checks, rows_from, lines_from}
use Rattle.bench.specs.Records.{records_from}

-- What the call is given.
pub record BenchArguments : Type 0 where
  pub text : List ℕ
  pub list : List ℕ
  pub records : List ℕ

-- The records of the text.
unfoldable pub bench_records : BenchArguments → File
bench_records given = records_from given.list [] (forms_of given.text)

-- All checks in order: on what is lent beside the text, on its lines, which count from 1, and on the records. "Then the records meet 2 to
-- 10": Read's checks, of which 1 never fails here.
unfoldable pub lent_checks : BenchArguments → List Check
lent_checks given = size_checks (length given.list) (length given.records) ++ rows_from given.list 0 8

unfoldable pub text_checks : BenchArguments → List Check
text_checks given = lines_from 1 [] false (forms_of given.text) ++ read_checks (bench_records given)

unfoldable pub bench_checks : BenchArguments → List Check
bench_checks given = lent_checks given ++ text_checks given

unfoldable pub bench_verdict : BenchArguments → Verdict
bench_verdict given = verdict (bench_checks given)

-- "Bytes past the records are unchanged."
unfoldable pub overlaid : File → List ℕ → List ℕ
overlaid made given = made ++ drop (length made) given

-- By a verdict, the answer, "The record count is returned" or the refusal, and each byte of the record buffer, of which a refusal changes
-- none.
pub record Handed (v : Verdict) (made : File) (given : List ℕ) (answer : Result ℕ Refusal) (records' : List ℕ) : Type 0 where
  pub answered : answer ≡ answer_after v (net_count made)
  pub written : records' ≡ buffer_after v (overlaid made given) given

-- What Bench promises: by the verdict on all checks, its answer, and the record buffer as it leaves it.
abbrev pub Benched : BenchArguments → Result ℕ Refusal → List ℕ → Type 0
Benched given answer records' = Handed (bench_verdict given) (bench_records given) given.records answer records'
