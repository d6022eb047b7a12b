-- `bench::bench` meets its contract: the checks on what is lent come first, then those on the text.
-- Assumes nothing.
use mathlib.Core.Path.{refl}
use Rattle.block.proofs.Verdicts.{handed_on, both_accepted}
use Rattle.bench.specs.Bench.{lent_checks}
use Rattle.bench.proofs.Rows.{sizes_right}
use Rattle.bench.proofs.Handing.{lent_refused, lent_accepted}
use Rattle.bench.proofs.bench.Goals as goal

pub make-requires : goal.make-requires
make-requires c =
    let lent = rw c.in_ok-rows.was at c.check_given.ensures in
    (sizes_right _ _ (both_accepted _ _ lent.1).0).0

pub returns-in_err-rows : goal.returns-in_err-rows
unfolding lent_checks
returns-in_err-rows c =
    rw (handed_on c.from_residual.ensures.1 refl) (lent_refused _ (rw c.in_err-rows.was at c.check_given.ensures))

pub returns : goal.returns
unfolding lent_checks
returns c =
    let lent = rw c.in_ok-rows.was at c.check_given.ensures in
    lent_accepted _ lent.1 (rw lent.0 at c.make.ensures)
