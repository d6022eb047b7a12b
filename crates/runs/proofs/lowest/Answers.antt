-- `runs::lowest` meets its contract.
-- Assumes nothing.
use mathlib.Core.Bool.{true}
use mathlib.Core.Path.{◌≡◌, ap, sym, ◌∙◌}
use native.Mathlib.Omega.{arith}
use Prim.Native.Nat.{◌-◌}
use lib.Pow.{pow_pos}
use lib.Dec.{ltb}
use borrow.Author.Tests.{lt-ltb}
use Rattle.bits.specs.Bits.{bit_at}
use Rattle.bits.proofs.Bits.{bit_ones, one_shifted}
use Rattle.runs.proofs.lowest.Goals as goal

pub overflow_sub-result : goal.overflow_sub-result
overflow_sub-result c = omega (arith, one_shifted c.args.k c.if-k-lt64.true, pow_pos c.args.k)

pub returns-then-k-lt64 : goal.returns-then-k-lt64
returns-then-k-lt64 c j h = ap (λ n. bit_at (n - 1) j) (one_shifted c.args.k c.if-k-lt64.true) ∙ bit_ones c.args.k j

pub returns : goal.returns
returns c j h =
    let e : ltb j c.args.k ≡ true = lt-ltb j _ (omega arith) in bit_ones 64 j ∙ lt-ltb j 64 h ∙ sym e
