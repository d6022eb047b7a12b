-- `current::ticks::has_tick` meets its contract.
-- Assumes nothing.
use Rattle.std.proofs.Common.{sym, refl, ◌∙◌}
use Rattle.std.proofs.lemmas.Slice.Eq.{slice_eq-Decides}
use Rattle.std.specs.Cmp.{unsigned_Decides}
use borrow.Author.Tests.{not-false}
use Rattle.current.proofs.Bits.{no_tick}
use Rattle.current.proofs.ticks.has_tick.Goals as goal

pub returns : goal.returns
returns c = λ e. no_tick ((slice_eq-Decides unsigned_Decides _ _ _ refl).0 (not-false _ (sym c.ne.ensures ∙ e)))
