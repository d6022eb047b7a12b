-- `fill::fill` meets its contract.
-- Assumes nothing.
use native.Mathlib.Omega.{arith}
use Rattle.fill.proofs.Filling.{all_filled, few_filled, early_few}
use Rattle.fill.proofs.fill.Goals as goal

pub returns-then-last-hops : goal.returns-then-last-hops
returns-then-last-hops c = let pre = c.requires in few_filled _ _ _ _ pre.3 (early_few _ _ _ _ pre.2 (omega arith) pre.3)

pub returns-then-count_starts-hops : goal.returns-then-count_starts-hops
returns-then-count_starts-hops c =
    few_filled _ _ _ _ c.requires.3 (λ e. omega (arith, c.count_starts.ensures e, c.if-count_starts-hops.true))

pub returns : goal.returns
returns c =
    all_filled c.fill_excitation.ensures c.fill_excitation-2.ensures c.fill_excitation-3.ensures
    c.fill_excitation-4.ensures
