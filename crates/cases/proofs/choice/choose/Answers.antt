-- `cases::choice::choose` meets its contract. The loop's invariant: the scan of the rest of the list is that of the whole.
-- Assumes nothing.
use mathlib.Core.Path.{◌∙◌}
use native.Mathlib.Omega.{arith}
use Rattle.cases.proofs.Chosen.{scan_found, scan_next, scan_end}
use Rattle.cases.proofs.choice.choose.Goals as goal

pub returns-then-undecided : goal.returns-then-undecided
returns-then-undecided c =
    let pre = c.requires in
    let taken = c.loop-k-test.true in
    let net = c.from-net.ensures in (
      scan_found pre.2 _ _ _ taken net c.is_undecided-undecided.ensures c.if-undecided.true ∙ c.loop-k.invariant,
      omega (arith, net, pre.2.low _ taken),
    )

pub loop-k-preserved : goal.loop-k-preserved
loop-k-preserved c =
    let pre = c.requires in
    let taken = c.loop-k-test.true in
    let net = c.from-net.ensures in
    scan_next pre.2 _ _ _ taken net c.is_undecided-undecided.ensures c.if-undecided.false ∙ c.loop-k.invariant

pub returns : goal.returns
returns c =
    let pre = c.requires in
    (scan_end pre.2 _ c.loop-k.k (omega arith) ∙ c.loop-k.invariant, omega (arith, pre.0))
