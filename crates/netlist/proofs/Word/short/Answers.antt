-- `netlist::Word::short` meets its contract.
-- Assumes nothing.
use Rattle.netlist.proofs.Packing.{short_told, long_told}
use Rattle.netlist.proofs.Word.short.Goals as goal

pub returns-then-self-le8 : goal.returns-then-self-le8
returns-then-self-le8 c letters e proper = short_told c.args.self letters e c.if-self-le8.true

pub returns-else-self-le8 : goal.returns-else-self-le8
returns-else-self-le8 c letters e proper = long_told c.args.self letters e c.if-self-le8.false
