-- The examples of lists of inputs, computed.
-- Assumes nothing.
use mathlib.Core.Path.{refl}
use Rattle.laws.specs.Below.{all_below, any_below, count_below}
use Rattle.laws.specs.Turn.{in_turn}
use Rattle.block.specs.Block.{inputs_below, feeds, fed_from, cone_size}
use Rattle.block.specs.Kind.{kind_of}
use Rattle.block.specs.Record.{is_input}
use Rattle.block.specs.View.{gate_of}
use Rattle.operation.specs.SplitOrder.{times_named, names_each}
use Rattle.cases.specs.SplitOrder.{put_in, in_order, wider, cone_order, put_falling, falling_with, four, lex_below}
use Rattle.examples.specs.Orders.{OrderExamples}

pub order_examples : OrderExamples
unfolding all_below any_below count_below in_turn inputs_below feeds fed_from cone_size kind_of is_input gate_of times_named names_each put_in in_order wider cone_order put_falling falling_with four lex_below
order_examples = record {
  each_once = refl;
  one_twice = refl;
  one_missing = refl;
  one_past = refl;
  ties = refl;
  widest_first = refl;
  block_F = refl;
  filled = refl;
  smaller_first = refl;
  equal_fours = refl;
}
