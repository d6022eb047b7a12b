-- `rows::excitation_row::write_row` meets its contract.
-- Assumes nothing.
use Prim.Native.Nat.{◌+◌, ◌*◌}
use mathlib.Core.Path.{ap}
use native.Mathlib.Omega.{arith}
use Rattle.rows.proofs.Excitations.{words_next, words_all}
use Rattle.rows.proofs.excitation_row.write_row.Goals as goal

pub loop-part-preserved : goal.loop-part-preserved
loop-part-preserved c =
    words_next _ _ c.loop-part.part c.loop-part.invariant c.write_word.ensures

pub returns : goal.returns
returns c =
    let args = c.args in
    words_all args.e args.net _ (ap (λ x. 160 * args.net + x) c.place.ensures.0) c.loop-part.part _ (omega arith) c.loop-part.invariant
