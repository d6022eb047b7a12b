-- `netlist::Word::is_name` meets its contract.
-- Assumes nothing.
use mathlib.Core.Path.{◌∙◌}
use Rattle.netlist.proofs.Packing.{name_told}
use Rattle.netlist.proofs.Word.is_name.Goals as goal

pub returns : goal.returns
returns c letters e proper = c.in_range.ensures ∙ name_told c.args.self letters e proper
