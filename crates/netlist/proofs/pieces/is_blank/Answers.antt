-- `netlist::pieces::is_blank` meets its contract.
-- Assumes nothing.
use mathlib.Core.Logic.{⊎_elim}
use mathlib.Core.Path.{refl}
use native.Mathlib.Omega.{arith}
use borrow.Author.Tests.{ne_eqb}
use Rattle.netlist.specs.Lines.{is_blank}
use Rattle.netlist.proofs.pieces.is_blank.Goals as goal

pub returns-in-9 : goal.returns-in-9
unfolding is_blank
returns-in-9 c = ⊎_elim (λ e. rw e refl) (⊎_elim (λ e. rw e refl) (λ e. rw e refl)) c.in-9.is

pub returns-in_default : goal.returns-in_default
unfolding is_blank
returns-in_default c =
    let byte = c.args.byte in
    rw (ne_eqb byte 9 (grind arith), ne_eqb byte 13 (grind arith), ne_eqb byte 32 (grind arith)) refl
