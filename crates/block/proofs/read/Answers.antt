-- `block::read` meets its contract.
-- Assumes nothing.
use mathlib.Core.Path.{refl, sym, ap, ◌∙◌}
use Rattle.block.specs.Refusals.{read_checks, answer_to, read_of}
use Rattle.block.proofs.Accepted.{file_passed}
use Rattle.block.proofs.Verdicts.{handed_on, refused_first, accepted_first}
use Rattle.block.proofs.read.Goals as goal

pub returns-in_err-check_file : goal.returns-in_err-check_file
unfolding read_of read_checks
returns-in_err-check_file c =
    handed_on c.from_residual.ensures.1 (ap (answer_to c.args.file.now) (sym (refused_first _ _ _ (sym c.check_file.ensures ∙ c.in_err-check_file.was))))

pub check_records-requires : goal.check_records-requires
check_records-requires c = (refl, (file_passed _ (sym c.check_file.ensures ∙ c.in_ok-check_file.was)).1)

pub returns : goal.returns
unfolding read_of read_checks
returns c = c.check_records.ensures ∙ ap (answer_to _) (sym (accepted_first _ _ (sym c.check_file.ensures ∙ c.in_ok-check_file.was)))
