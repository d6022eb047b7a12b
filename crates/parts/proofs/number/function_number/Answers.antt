-- `parts::number::function_number` meets its contract.
-- Assumes nothing.
use mathlib.Core.Path.{refl}
use native.Mathlib.Omega.{arith}
use Rattle.parts.specs.Parts.{number_of}
use Rattle.parts.proofs.number.function_number.Goals as goal

pub returns : goal.returns
unfolding number_of
returns c =
    let first = c.level_of.ensures in
    let second = c.level_of-2.ensures in
    let third = c.level_of-3.ensures in
    let fourth = c.level_of-4.ensures in
    (rw (first.0, second.0, third.0, fourth.0) refl, omega arith)
