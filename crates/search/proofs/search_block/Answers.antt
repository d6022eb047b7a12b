-- `search::search_block` meets its contract.
-- Assumes nothing.
use native.Mathlib.Omega.{arith}
use Rattle.cases.proofs.Probes.{first_covered}
use Rattle.evaluation.proofs.Given.{evaluable_kept}
use Rattle.search.proofs.Answers.{block_searched}
use Rattle.search.proofs.search_block.Goals as goal

pub run-ended-requires : goal.run-ended-requires
run-ended-requires c =
    let made = c.make_first-threshold in (
      evaluable_kept c.requires.0 made.auto.sheet made.auto.work,
      made.ensures.running,
      c.requires.2,
      omega (arith, c.requires.3, made.ensures.past.store_long),
      rw made.ensures.state (first_covered _ _ _),
    )

pub returns : goal.returns
returns c =
    block_searched c.args.setting c.args.limits.ratio c.args.limits.budget c.args.order.now c.args.sheet.now c.args.pattern.now c.args.work.now
    c.args.store.now c.make_first-threshold.ensures c.run-ended.ensures c.draw_cases.ensures c.quiet_tick-quiet.ensures
