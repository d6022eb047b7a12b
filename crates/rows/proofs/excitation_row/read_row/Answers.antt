-- `rows::excitation_row::read_row` meets its contract.
-- Assumes nothing.
use Prim.Native.Nat.{◌+◌, ◌*◌}
use mathlib.Core.Path.{ap}
use Rattle.rows.proofs.Excitations.{words_read}
use Rattle.rows.proofs.excitation_row.read_row.Goals as goal

pub returns : goal.returns
returns c =
    let args = c.args in
    words_read args.e args.net _ (ap (λ x. 160 * args.net + x) c.place.ensures.0) args.work.now (λ i. (c.type_inv.work i).fits)
    c.read_word.ensures c.read_word-2.ensures c.read_word-3.ensures c.read_word-4.ensures
