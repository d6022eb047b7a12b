-- `estimate::answer`: what is written for the bytes in the room is what is written for the whole input.
-- Assumes nothing.
use Rattle.std.proofs.Common.{rules, arith}
use Rattle.std.proofs.lemmas.Result.{IfOk-at_ok}
use Rattle.estimate.proofs.Inputs.{read_done, answered, written_or_not}
use Rattle.estimate.proofs.answer.Goals as goal

pub returns : goal.returns
returns g c =
    let read = read_done _ c.read_input.result c.map_err.result c.in_ok-n.n c.in_ok-n.was c.map_err.ensures.cases in
    let ends = IfOk-at_ok _ read c.read_input.ensures.bytes in
    let within = IfOk-at_ok _ read c.read_input.ensures.within in
    written_or_not _ _ _ _ c.print.result c.map_err-2.result (λ e f renamed. search rules) c.print.ensures c.map_err-2.ensures.cases
    (answered _ _ _ _ c.in_ok-n.n c.read_input.new.room (omega arith) (omega (arith, within)) ends.0 ends.1)
