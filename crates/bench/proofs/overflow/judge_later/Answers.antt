-- `bench::overflow::judge_later` meets its contract. The loop's invariant: the lines before `rest` are judged, and all accepted.
-- Assumes nothing.
use mathlib.Core.Path.{refl, ap}
use Rattle.std.specs.Prelude.{Err, option_map}
use Rattle.block.proofs.Verdicts.{handed_on}
use Rattle.netlist.specs.Kept.{line_in}
use Rattle.bench.proofs.Told.{missing, there}
use Rattle.bench.proofs.LaterLines.{none_judged, all_judged, form_refused, line_refused, judged_next}
use Rattle.bench.proofs.overflow.judge_later.Goals as goal

pub loop-bytes-init : goal.loop-bytes-init
loop-bytes-init c = none_judged _ _ _ _

pub returns-in_err-line : goal.returns-in_err-line
returns-in_err-line c =
    let line = missing _ _ c.ok_or.ensures.value c.in_err-line.was in
    rw (handed_on c.from_residual.ensures.1 (ap Err line.1))
    (form_refused c.loop-bytes.invariant c.in-Some.ensures.first c.read_line.ensures (ap (option_map line_in) line.0))

pub returns-in_err-judge : goal.returns-in_err-judge
returns-in_err-judge c =
    rw (handed_on c.from_residual-in_err-judge.ensures.1 refl)
    (line_refused c.loop-bytes.invariant c.in-Some.ensures.first c.read_line.ensures
    (ap (option_map line_in) (there _ _ c.ok_or.ensures.value c.in_ok-line.was)) c.judge.ensures c.in_err-judge.was)

pub loop-bytes-preserved : goal.loop-bytes-preserved
loop-bytes-preserved c =
    rw (c.is_gate-after.ensures, c.is_some-more.ensures, c.name.ensures)
    (judged_next c.loop-bytes.invariant c.in-Some.ensures.first c.read_line.ensures
    (ap (option_map line_in) (there _ _ c.ok_or.ensures.value c.in_ok-line.was)) c.judge.ensures c.in_ok-judge.was)

pub returns : goal.returns
returns c = all_judged c.loop-bytes.invariant c.in_default.ensures
