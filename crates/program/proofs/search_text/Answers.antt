-- `program::search_text` meets its contract.
-- Assumes nothing.
use Rattle.std.proofs.Common.{rules}
use mathlib.Core.Path.{ap, ◌∙◌}
use lib.ListN.{length}
use Rattle.split_order.proofs.ByCone.{cone_order_long}
use Rattle.excitation.specs.Excitation.{pattern_of}
use Rattle.program.proofs.Patterns.{pattern_cut}
use Rattle.program.specs.Program.{arguments_with}
use Rattle.program.proofs.Searches.{searched_with, search_refused, search_found}
use Rattle.program.proofs.search_text.Goals as goal

pub returns-in-Err : goal.returns-in-Err
unfolding arguments_with
returns-in-Err c =
    let printed = c.refusal_text.ensures in
    record {
      is = printed.is ∙ search_refused _ (searched_with _ _ c.requires.0 c.search.ensures) c.in-Err.is;
      fits = printed.fits;
    }

pub returns-in-Ok : goal.returns-in-Ok
unfolding arguments_with
returns-in-Ok c =
    let first = c.found_line in
    let counted = ap length c.requires.0 ∙ cone_order_long _ in
    search_found _ (searched_with _ _ c.requires.0 c.search.ensures) _ first.result c.pattern_line.result c.in-Ok.is
    (pattern_cut _ _ (search rules) ∙ ap (λ n. pattern_of n c.search.new.pattern) counted) first.ensures.0 c.pattern_line.ensures
