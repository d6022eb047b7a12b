-- `current::draw::change_words` meets its contract.
-- Assumes nothing.
use Rattle.std.proofs.Common.{◌*◌, arith}
use Rattle.current.proofs.Runs.{changed_append}
use Rattle.current.proofs.draw.change_words.Goals as goal

pub loop-n-preserved : goal.loop-n-preserved
loop-n-preserved g c =
    let loop = c.loop-n in
    changed_append (goal.F-post g c.args.change) c.args.shapes.now c.args.place c.args.at (8 * loop.n) 8 loop.invariant c.change_eight.ensures _ (omega arith)
