-- `current::edge::edge_of` meets its contract.
-- Assumes nothing.
use Rattle.std.proofs.Common.{◌≡◌, true, false, leb, refl, le-leb}
use borrow.Author.Tests.{lt-leb}
use Rattle.current.specs.Edges.{edge_of}
use Rattle.current.proofs.edge.edge_of.Goals as goal

pub returns-in-Greater : goal.returns-in-Greater
unfolding edge_of
returns-in-Greater c =
    let sorted : leb c.args.gate.peaks.hl c.args.gate.peaks.lh ≡ true = le-leb _ _ c.if-gate.true in
    rw (sorted, c.in-Greater.is) refl

pub returns-in-Lower : goal.returns-in-Lower
unfolding edge_of
returns-in-Lower c =
    let sorted : leb c.args.gate.peaks.hl c.args.gate.peaks.lh ≡ true = le-leb _ _ c.if-gate.true in
    rw (sorted, c.in-Lower.is) refl

pub returns-in-Greater-peak : goal.returns-in-Greater-peak
unfolding edge_of
returns-in-Greater-peak c =
    let sorted : leb c.args.gate.peaks.hl c.args.gate.peaks.lh ≡ false = lt-leb _ _ c.if-gate.false in
    rw (sorted, c.in-Greater-peak.is) refl

pub returns-in-Lower-peak : goal.returns-in-Lower-peak
unfolding edge_of
returns-in-Lower-peak c =
    let sorted : leb c.args.gate.peaks.hl c.args.gate.peaks.lh ≡ false = lt-leb _ _ c.if-gate.false in
    rw (sorted, c.in-Lower-peak.is) refl
