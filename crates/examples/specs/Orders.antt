-- Lists of inputs in the order to be split (request 6), computed: which lists check 19 lets pass, how a maker sorts, and what it writes of
-- an input that it tries.
use Rattle.std.specs.Prelude.{true, false, [], ◌∷◌, ◌≡◌}
use Rattle.block.specs.Examples.{block_f}
use Rattle.operation.specs.SplitOrder.{names_each}
use Rattle.cases.specs.SplitOrder.{in_order, wider, cone_order, four, lex_below}

pub record OrderExamples : Type 0 where
  -- Of three inputs: each once; one twice; one left out; and of two, a net past them.
  pub each_once : names_each 3 (2 ∷ 0 ∷ 1 ∷ []) ≡ true
  pub one_twice : names_each 3 (2 ∷ 0 ∷ 0 ∷ []) ≡ false
  pub one_missing : names_each 3 (1 ∷ 0 ∷ []) ≡ false
  pub one_past : names_each 2 (0 ∷ 2 ∷ []) ≡ false
  -- Cones of one size leave the nets as they are; the widest comes first.
  pub ties : in_order (wider (λ net. 5)) 3 ≡ 0 ∷ 1 ∷ 2 ∷ []
  pub widest_first : in_order (wider (λ net. net)) 3 ≡ 2 ∷ 1 ∷ 0 ∷ []
  pub block_F : cone_order block_f ≡ 0 ∷ 1 ∷ []
  -- Three children's upper numbers, in falling order, filled with 0; and which four come first.
  pub filled : four (5 ∷ 9 ∷ 7 ∷ []) ≡ 9 ∷ 7 ∷ 5 ∷ 0 ∷ []
  pub smaller_first : lex_below (9 ∷ 7 ∷ 5 ∷ 0 ∷ []) (9 ∷ 8 ∷ 0 ∷ 0 ∷ []) ≡ true
  pub equal_fours : lex_below (9 ∷ 7 ∷ 5 ∷ 0 ∷ []) (9 ∷ 7 ∷ 5 ∷ 0 ∷ []) ≡ false
