-- `fill::count_starts` meets its contract.
-- Assumes nothing.
use mathlib.Core.Path.{◌≡◌}
use native.Mathlib.Omega.{arith}
use borrow.Author.Rules.{rules}
use Rattle.runs.proofs.Begins.{StartsOf}
use Rattle.fill.proofs.Counting.{starts_none, starts_more, starts_all}
use Rattle.fill.proofs.count_starts.Goals as goal

pub loop-part-init : goal.loop-part-init
loop-part-init c =
    let none : c.default-before.result ≡ record { l = 0; h = 0; hl = 0; lh = 0 } = search rules in
    rw none (starts_none _ _)

pub loop-part-preserved : goal.loop-part-preserved
loop-part-preserved c =
    let here = c.read_part-here.result in
    let before = c.loop-part.before in
    let of_l : StartsOf here.l before.l c.zip.result.l = search rules in
    let of_h : StartsOf here.h before.h c.zip.result.h = search rules in
    let of_hl : StartsOf here.hl before.hl c.zip.result.hl = search rules in
    let of_lh : StartsOf here.lh before.lh c.zip.result.lh = search rules in
    starts_more _ _ _ _ before here c.zip.result _ c.loop-part.invariant c.read_part-here.ensures of_l of_h of_hl of_lh c.some-begun.ensures c.some-begun.type_inv

pub returns : goal.returns
returns c = starts_all _ _ _ _ _ _ c.loop-part.invariant c.requires.1 (omega arith) (omega arith)
