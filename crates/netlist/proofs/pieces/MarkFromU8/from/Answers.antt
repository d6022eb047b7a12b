-- `netlist::pieces::MarkFromU8::from` meets its contract.
-- Assumes nothing.
use mathlib.Core.Path.{refl}
use native.Mathlib.Omega.{arith}
use borrow.Author.Tests.{ne_eqb}
use Rattle.netlist.specs.Forms.{mark_of}
use Rattle.netlist.proofs.pieces.MarkFromU8.from.Goals as goal

pub returns-in-61 : goal.returns-in-61
unfolding mark_of
returns-in-61 c = rw c.in-61.is refl

pub returns-in-40 : goal.returns-in-40
unfolding mark_of
returns-in-40 c = rw c.in-40.is refl

pub returns-in-44 : goal.returns-in-44
unfolding mark_of
returns-in-44 c = rw c.in-44.is refl

pub returns-in-41 : goal.returns-in-41
unfolding mark_of
returns-in-41 c = rw c.in-41.is refl

pub returns-in_default : goal.returns-in_default
unfolding mark_of
returns-in_default c =
    let byte = c.args.byte in
    rw (
      ne_eqb byte 61 (omega arith),
      ne_eqb byte 40 (omega arith),
      ne_eqb byte 44 (omega arith),
      ne_eqb byte 41 (omega arith),
    )
    refl
