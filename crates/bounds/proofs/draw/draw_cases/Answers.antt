-- `bounds::draw::draw_cases` meets its contract.
-- Assumes nothing.
use Prim.Native.Nat.{ℕ}
use mathlib.Core.Path.{◌≡◌, refl, ◌∙◌}
use native.Mathlib.Omega.{arith}
use lib.ListN.{length-replicate}
use Rattle.sheet.proofs.Sheets.{sheet_long}
use Rattle.bounds.proofs.Sheets.{sheet_of_case, none_drawn, next_drawn, all_drawn}
use Rattle.bounds.proofs.draw.draw_cases.Goals as goal

pub loop-k-init : goal.loop-k-init
loop-k-init c =
    (refl, length-replicate {A = ℕ} 8192 0, none_drawn c.args.setting.file.now c.args.setting.hops c.args.setting.inputs c.args.store.now _ c.clear.ensures)

pub loop-k-preserved : goal.loop-k-preserved
loop-k-preserved c =
    let loop = c.loop-k in
    let file = c.args.setting.file.now in
    let hops = c.args.setting.hops in
    let inputs = c.args.setting.inputs in
    let store = c.args.store.now in
    let drawn = c.draw_case.ensures in (
      c.draw_case.auto.work ∙ loop.invariant.0,
      sheet_long (sheet_of_case file hops inputs store loop.k) drawn,
      next_drawn file hops inputs store loop.k _ _ _ loop.invariant.2 drawn c.raise.ensures,
    )

pub returns : goal.returns
returns c =
    let loop = c.loop-k in
    let e : loop.k ≡ c.args.n = omega (arith, c.loop-k-test.false) in
    all_drawn c.args.setting.file.now c.args.setting.hops c.args.setting.inputs c.args.store.now c.args.n (rw e at loop.invariant.2)
