-- `cases::store::write_case` meets its contract.
-- Assumes nothing.
use lib.ListN.{length, get_or}
use mathlib.Core.Path.{ap, ◌∙◌}
use native.Mathlib.Omega.{arith}
use Rattle.numbers.proofs.Ranges.{range_written}
use Rattle.cases.proofs.Records.{case_written}
use Rattle.cases.proofs.store.write_case.Goals as goal

pub returns : goal.returns
returns c =
    let copied = c.copy_from_slice.ensures.after in
    case_written c.args.codes.now _ _ _ c.args.store.now _ _ c.told-codes c.start-start.ensures
    (range_written _ c.start-start.result 64 c.args.store.now _ (omega (arith, c.start-start.ensures, c.requires.whole)) (ap length copied ∙ c.told-codes) (λ k h. ap (λ part. get_or part k 0) copied))
    c.write_word.ensures
