-- `program::printed` meets its contract.
-- Assumes nothing.
use mathlib.Core.Path.{sym, subst, ◌∙◌}
use Prim.Native.Nat.{◌≤◌}
use lib.Seq.{length-take-le}
use Rattle.split_order.proofs.ByCone.{refused_by_read, list_made}
use Rattle.program.proofs.Searches.{too_long, not_too_long, read_refused}
use Rattle.program.proofs.printed.Goals as goal

pub returns-then-file-gt-MOST : goal.returns-then-file-gt-MOST
returns-then-file-gt-MOST c = record { is = c.refusal_text.ensures.is ∙ too_long _ c.if-file-gt-MOST.true; fits = c.refusal_text.ensures.fits }

pub slice_bounds-nets-end : goal.slice_bounds-nets-end
slice_bounds-nets-end c = (list_made _ c.cone_order.ensures c.in-Ok.is).room

pub slice_bounds-search_text-end : goal.slice_bounds-search_text-end
slice_bounds-search_text-end c =
    let made = list_made _ c.cone_order.ensures c.in-Ok.is in
    sym (length-take-le _ _ made.room)

pub search_text-requires : goal.search_text-requires
search_text-requires c =
    let made = list_made _ c.cone_order.ensures c.in-Ok.is in
    let long = sym (length-take-le _ _ made.room) in
    (made.list, subst (λ n. 1 ≤ n) long made.some, subst (λ n. n ≤ 64) long made.few)

pub returns-in-Err : goal.returns-in-Err
returns-in-Err c =
    let printed = c.refusal_text-in-Err.ensures in
    record {
      is = printed.is ∙ read_refused _ (refused_by_read _ c.cone_order.ensures c.in-Err.is) ∙ not_too_long _ c.if-file-gt-MOST.false;
      fits = printed.fits;
    }

pub returns-in-Ok : goal.returns-in-Ok
returns-in-Ok c =
    let printed = c.search_text.ensures in
    record {
      is = printed.is ∙ not_too_long _ c.if-file-gt-MOST.false;
      fits = printed.fits;
    }
