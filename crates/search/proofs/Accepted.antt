-- What accepted arguments of a search are.
-- Assumes nothing.
use Rattle.block.specs.Verdict.{Accepted}
use Prim.Native.Nat.{ℕ, ◌+◌, ◌*◌, ◌≤◌}
use mathlib.Core.Bool.{true}
use mathlib.Core.List.{List}
use mathlib.Core.Path.{◌≡◌}
use borrow.Author.Tests.{eqb-true, leb-true}
use Rattle.block.specs.Verdict.{verdict}
use Rattle.block.specs.declared.verdict.Reason.TheVariants.{WrongHopLimit, WrongTable, WrongRatio, WrongBudget, WrongBuffer, WrongOrder}
use Rattle.block.proofs.Fields.{within_low, within_high}
use Rattle.block.proofs.Verdicts.{listed, listing}
use Rattle.operation.specs.Arguments.{table_right}
use Rattle.operation.specs.SplitOrder.{names_each}
use Rattle.search.specs.Search.{argument_checks}

pub record ArgumentsRight (nets inputs hops table ratio budget : ℕ) (order : List ℕ) (sheet pattern work store : ℕ) : Type 0 where
  pub some_hops : 1 ≤ hops
  pub table_right_lem : table_right table ≡ true
  pub ratio_high : ratio ≤ 10000
  pub budget_high : budget ≤ 10000
  pub order_right : names_each inputs order ≡ true
  pub sheet_long : sheet ≡ 8192
  pub pattern_long : pattern ≡ 64
  pub work_long : 160 * nets ≤ work
  pub store_long : 72 * (1 + 3 * budget) ≤ store

pub arguments_right : (nets inputs hops table ratio budget : ℕ) (order : List ℕ) (sheet pattern work store : ℕ)
    → verdict (argument_checks nets inputs hops table ratio budget order sheet pattern work store) ≡ Accepted
    → ArgumentsRight nets inputs hops table ratio budget order sheet pattern work store
unfolding argument_checks
arguments_right nets inputs hops table ratio budget order sheet pattern work store e = record {
  some_hops = within_low 1 16 hops (listed _ e WrongHopLimit 0 _ (search listing depth 12));
  table_right_lem = listed _ e WrongTable 0 _ (search listing);
  ratio_high = within_high 1000 10000 ratio (listed _ e WrongRatio 0 _ (search listing depth 12));
  budget_high = leb-true budget 10000 (listed _ e WrongBudget 0 _ (search listing depth 12));
  order_right = listed _ e WrongOrder 0 _ (search listing depth 12);
  sheet_long = eqb-true sheet 8192 (listed _ e WrongBuffer 1 _ (search listing depth 12));
  pattern_long = eqb-true pattern 64 (listed _ e WrongBuffer 2 _ (search listing depth 12));
  work_long = leb-true (160 * nets) work (listed _ e WrongBuffer 3 _ (search listing depth 12));
  store_long = leb-true (72 * (1 + 3 * budget)) store (listed _ e WrongBuffer 4 _ (search listing depth 12));
}
