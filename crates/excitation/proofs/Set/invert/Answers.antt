-- `excitation::Set::invert` meets its contract.
-- Assumes nothing.
use Prim.Native.Nat.{◌%◌}
use mathlib.Core.Path.{ap, ◌∙◌}
use native.Mathlib.Omega.{arith}
use Rattle.excitation.specs.UncertaintySet.{code, invert_set}
use Rattle.excitation.proofs.Codes.{decode_low, bits_small, invert_bits}
use Rattle.excitation.proofs.Set.invert.Goals as goal

pub overflow_mul-result : goal.overflow_mul-result
overflow_mul-result c = let small = bits_small (c.args.self.code % 16) (omega arith) in omega arith

pub overflow_add-result : goal.overflow_add-result
overflow_add-result c = let small = bits_small (c.args.self.code % 16) (omega arith) in omega arith

pub returns : goal.returns
returns c = invert_bits (c.args.self.code % 16) (omega arith) ∙ ap (λ s. code (invert_set s)) (decode_low c.args.self.code)
