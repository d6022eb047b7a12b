-- `netlist::words::pin_count_right` meets its contract.
-- Assumes nothing.
use mathlib.Core.Path.{refl}
use Rattle.netlist.specs.Forms.{pins_allowed}
use Rattle.netlist.proofs.words.pin_count_right.Goals as goal

pub returns : goal.returns
unfolding pins_allowed
returns c = rw (c.in_range.ensures, c.gate_rule-rule.ensures) refl
