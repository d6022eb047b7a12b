-- `fill::shorter` meets its contract.
-- Assumes nothing.
use Prim.Native.Nat.{◌-◌}
use mathlib.Core.Path.{refl}
use native.Mathlib.Omega.{arith}
use borrow.Author.Tests.{lt-ltb, le-ltb}
use Rattle.fill.specs.Gaps.{shorter}
use Rattle.fill.proofs.shorter.Goals as goal

pub returns-then-size-shortest : goal.returns-then-size-shortest
unfolding shorter
returns-then-size-shortest c = let s = c.args in rw (lt-ltb (s.next - s.end) s.shortest.size (omega arith)) refl

pub returns : goal.returns
unfolding shorter
returns c = let s = c.args in rw (le-ltb (s.next - s.end) s.shortest.size (omega arith)) refl
