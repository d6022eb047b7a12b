-- `netlist::declaration` meets its contract.
-- Assumes nothing.
use mathlib.Core.Path.{refl, ap, sym, ◌∙◌}
use native.Mathlib.Omega.{arith}
use borrow.Author.Tests.{ne_eqb}
use Rattle.std.specs.Prelude.{option_map}
use Rattle.netlist.specs.Kept.{number_of, backwards, no_name, names_in, line_in}
use Rattle.netlist.proofs.Formed.{declared_wrong, declared_many, declared_right, single}
use Rattle.netlist.proofs.declaration.Goals as goal

pub returns-in_err-names : goal.returns-in_err-names
returns-in_err-names c letters e l =
    ap (option_map line_in) c.from_residual.ensures
    ∙ declared_wrong letters _ (rw c.in_err-names.was at c.read_names.ensures)

pub returns-then-len-ne1 : goal.returns-then-len-ne1
returns-then-len-ne1 c letters e l =
    declared_many letters _ (rw c.in_ok-names.was at c.read_names.ensures) (λ one. c.if-len-ne1.true (c.len.ensures.value ∙ one))

pub returns-in-314846500180 : goal.returns-in-314846500180
unfolding number_of backwards
returns-in-314846500180 c letters e l =
    let one = single (names_in c.in_ok-names.names) no_name (omega arith) (omega arith) in
    let line = declared_right letters _ (rw c.in_ok-names.was at c.read_names.ensures) _ one l
    c.short.result (c.short.ensures letters e l) in
    sym (line ∙ rw (c.in-314846500180.is, c.as_slice.ensures.value) refl)

pub returns-in-87227905365332 : goal.returns-in-87227905365332
unfolding number_of backwards
returns-in-87227905365332 c letters e l =
    let one = single (names_in c.in_ok-names.names) no_name (omega arith) (omega arith) in
    let line = declared_right letters _ (rw c.in_ok-names.was at c.read_names.ensures) _ one l
    c.short.result (c.short.ensures letters e l) in
    sym (line ∙ rw c.in-87227905365332.is refl)

pub returns-in_default : goal.returns-in_default
unfolding number_of backwards
returns-in_default c letters e l =
    let number = c.short.result in
    let one = single (names_in c.in_ok-names.names) no_name (omega arith) (omega arith) in
    let line = declared_right letters _ (rw c.in_ok-names.was at c.read_names.ensures) _ one l
    number (c.short.ensures letters e l) in
    sym (line ∙ rw (ne_eqb number 0x494e505554 (omega arith), ne_eqb number 0x4f5554505554 (omega arith)) refl)
