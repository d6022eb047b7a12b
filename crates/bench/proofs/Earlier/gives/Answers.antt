-- `bench::Earlier::gives` meets its contract. The loop's invariant: what is true of the lines that are left is true of all of them, as
-- none of those passed gives the name.
-- Assumes nothing.
use Prim.Native.Nat.{◌-◌}
use mathlib.Core.Bool.{false}
use mathlib.Core.Path.{◌≡◌}
use native.Mathlib.Omega.{arith}
use Rattle.bench.proofs.GivenNames.{given_here, given_later, given_nowhere, none_left}
use Rattle.bench.proofs.Earlier.gives.Goals as goal

pub returns-in_default : goal.returns-in_default
returns-in_default c =
    let l = c.loop in
    l.invariant false (rw (none_left (c.args.self.now.lines - l.counter) c.in_default.ensures) (given_nowhere _))

pub returns-then-gives : goal.returns-then-gives
returns-then-gives c =
    let l = c.loop in
    l.invariant _ (given_here c.in-Some.ensures.first _ _ (omega arith) _ c.read_line.ensures c.gives.ensures c.if-gives.true)

pub loop-preserved : goal.loop-preserved
loop-preserved c =
    let l = c.loop in
    let later = given_later c.in-Some.ensures.first _ _ (omega arith) _ c.read_line.ensures c.gives.ensures c.if-gives.false in
    λ r h. l.invariant r (later r h)

pub returns : goal.returns
returns c =
    let l = c.loop in
    let none : c.args.self.now.lines - l.counter ≡ 0 = omega arith in
    l.invariant false (rw none (given_nowhere _))
