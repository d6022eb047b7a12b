-- `search::run::run` meets its contract. The loop's invariant: what is left of the search is what is left of it from the first case on.
-- Assumes nothing.
use mathlib.Core.Path.{◌∙◌}
use Rattle.evaluation.proofs.Given.{evaluable_kept}
use Rattle.search.proofs.Running.{split_room, case_to_split, ends_at, reached_next}
use Rattle.search.proofs.run.run.Goals as goal

pub returns-in-Some : goal.returns-in-Some
returns-in-Some c =
    let reached = c.loop-end.invariant.0 in
    ends_at reached (case_to_split reached.running _ c.argmax-k.ensures.1 _ c.argmax-k.ensures.0 c.upper-upper.ensures) c.end_before_split.ensures _ c.in-Some.is

pub split-step-requires : goal.split-step-requires
split-step-requires c =
    let inv = c.loop-end.invariant in
    let pre = c.requires in
    let space = split_room inv.0 c.in_default.ensures.2 c.args.limits.budget_high pre.3 in
    (evaluable_kept pre.0 inv.1 inv.2, inv.0.running, case_to_split inv.0.running _ c.argmax-k.ensures.1 _ c.argmax-k.ensures.0 c.upper-upper.ensures, pre.2, space.0, space.1, inv.0.covered)

pub loop-end-preserved : goal.loop-end-preserved
loop-end-preserved c =
    let done = c.split-step in
    let goes_on = c.in_default.ensures in
    let inv = c.loop-end.invariant in (
      reached_next inv.0 (case_to_split c.loop-end.invariant.0.running _ c.argmax-k.ensures.1 _ c.argmax-k.ensures.0 c.upper-upper.ensures) goes_on.0 goes_on.1 goes_on.2 done.ensures,
      done.auto.sheet ∙ inv.1,
      done.auto.work ∙ inv.2,
    )
