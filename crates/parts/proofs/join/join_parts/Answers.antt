-- `parts::join::join_parts` meets its contract: of the sixteen numbers only the last arm has to be told that it is 0.
-- Assumes nothing.
use mathlib.Core.Path.{◌≡◌}
use native.Mathlib.Omega.{arith}
use Rattle.parts.specs.Parts.{set_at}
use Rattle.parts.proofs.Joins.{by_0}
use Rattle.parts.proofs.join.join_parts.Goals as goal

pub returns-in_default : goal.returns-in_default
returns-in_default c k =
    let s = c.args in
    let e : s.f ≡ 0 = omega arith in
    cc (c.low-in_default.ensures k, e, by_0 (set_at s.a k) (set_at s.b k))
