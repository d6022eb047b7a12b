-- The examples of excitations and sets, by computation.
-- Assumes nothing.
use mathlib.Core.Bool.{xor}
use mathlib.Core.Path.{refl, ap}
use Rattle.excitation.specs.Examples.{SetExamples, class_of}
use Rattle.excitation.specs.UncertaintySet.{code, decode, member, join_sets, size}
use Rattle.excitation.proofs.Sets.{join_empty_first, join_empty_second}

pub set_examples : SetExamples
unfolding code decode member join_sets size xor class_of
set_examples = record {
  figure5_and = refl;
  figure5_or = refl;
  figure5_not = refl;
  and_12_12 = refl;
  or_12_12 = refl;
  xor_12_12 = refl;
  zero_first = λ f n. ap code (join_empty_first f (decode n));
  zero_second = λ f n. ap code (join_empty_second f (decode n));
  class_l = refl;
  class_lh = refl;
  class_hl = refl;
  class_h = refl;
  sizes = refl;
}
