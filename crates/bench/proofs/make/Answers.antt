-- `bench::make` meets its contract: the lines come first, then Read's checks on the records that they gave.
-- Assumes nothing.
use mathlib.Core.Path.{refl}
use Rattle.block.proofs.Verdicts.{handed_on}
use Rattle.bench.proofs.Handing.{text_refused, text_made}
use Rattle.bench.proofs.make.Goals as goal

pub returns-in_err-take_text : goal.returns-in_err-take_text
returns-in_err-take_text c =
    rw (handed_on c.from_residual.ensures.1 refl) (text_refused _ c.take_text.ensures _ c.in_err-take_text.was)

pub returns : goal.returns
returns c = text_made _ c.take_text.ensures c.in_ok-take_text.was c.made.ensures c.hand_over.ensures
