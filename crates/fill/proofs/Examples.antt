-- The examples of runs and filling, by evaluation.
-- Assumes nothing.
use mathlib.Core.Path.{refl}
use Rattle.excitation.specs.UncertaintySet.{member, code, decode}
use Rattle.runs.specs.Runs.{extend, runs_from, inside, ticks_inside}
use Rattle.fill.specs.Examples.{alternate, count, FillExamples}
use Rattle.fill.specs.Fill.{holding, fill_ticks, sets_holding, filled}
use Rattle.fill.specs.Gaps.{gaps_after, gaps, shorter, shortest, close, close_first, close_shortest, close_while, merged}

pub fill_examples : FillExamples
unfolding member code decode extend runs_from gaps_after gaps shorter shortest close close_first close_shortest close_while merged inside holding ticks_inside fill_ticks sets_holding filled alternate count
fill_examples = record {
  two_hops = refl;
  one_hop = refl;
  earliest = refl;
  earliest_ticks = refl;
  three_hops = refl;
  neighbours = refl;
  many = refl;
  apart = refl;
}
