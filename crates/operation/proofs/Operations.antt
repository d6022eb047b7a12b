-- Laws of the verdict on an operation's checks: the file's come first, then those of the other arguments, which go by the counts of nets
-- and inputs.
-- Assumes nothing.
use Rattle.std.specs.Prelude.{Result, Ok, Err}
use Rattle.block.specs.Verdict.{Verdict}
use Rattle.block.specs.declared.Counts.{Counts}
use Prim.Native.Nat.{ℕ}
use mathlib.Core.List.{List, ◌++◌}
use mathlib.Core.Path.{◌≡◌, ap, sym, subst, ◌∙◌}
use Rattle.block.specs.Accepted.{AcceptedFile}
use Rattle.block.specs.Block.{input_count}
use Rattle.block.specs.Record.{File, net_count}
use Rattle.block.specs.Refusals.{read_checks, read_of}
use Rattle.block.specs.Verdict.{Check, verdict}
use Rattle.block.specs.declared.verdict.Refusal.{Refusal}
use Rattle.block.proofs.Accepted.{accepted, counts_of, refused_verdict}
use Rattle.block.proofs.Verdicts.{refused_first, accepted_first}

after_refusal : (file : File) (rest : List Check) (r : Refusal) → read_of file ≡ Err r → verdict (read_checks file ++ rest) ≡ Err r
unfolding read_of
after_refusal file rest r e = refused_first (read_checks file) rest r (refused_verdict file (verdict (read_checks file)) r e)

after_counts : (file : File) (rest : List Check) (found : Counts) → read_of file ≡ Ok found → verdict (read_checks file ++ rest) ≡ verdict rest
unfolding read_of
after_counts file rest found e = accepted_first (read_checks file) rest (counts_of file (verdict (read_checks file)) found.nets found.inputs e).0

-- A file that Read answered with its counts.
pub file_accepted : {file : File} {read : Result Counts Refusal} {found : Counts} → read ≡ read_of file → read ≡ Ok found
    → AcceptedFile file found.nets found.inputs
file_accepted {file} {read} {found} is told = accepted file found.nets found.inputs (sym is ∙ told)

-- What an operation promises, P, goes by the verdict on all its checks. It holds where it holds at the verdict that the code comes to: the
-- refusal that Read answered, or else the verdict on the checks of the other arguments.
module _ (file : File) (checks : ℕ → ℕ → List Check) (P : Verdict → Type 0) {read : Result Counts Refusal} (is : read ≡ read_of file) where
  pub by_file : {r : Refusal} → read ≡ Err r → P (Err r) → P (verdict (read_checks file ++ checks (net_count file) (input_count file)))
  by_file {r} told p = subst P (sym (after_refusal file _ r (sym is ∙ told))) p

  pub by_arguments : {found : Counts} {v w : Verdict} → read ≡ Ok found → v ≡ verdict (checks found.nets found.inputs) → v ≡ w → P w
      → P (verdict (read_checks file ++ checks (net_count file) (input_count file)))
  by_arguments {found} told checked said p =
      let a = file_accepted is told in
      subst P (sym (after_counts file _ found (sym is ∙ told)
      ∙ ap (λ n. verdict (checks n (input_count file))) a.net_count_lem ∙ ap (λ n. verdict (checks found.nets n)) a.input_count_lem ∙ sym checked ∙ said)) p
