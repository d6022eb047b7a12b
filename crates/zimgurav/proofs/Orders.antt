-- What the calls of the makers leave in the lent list, and what their lists are to the search.
-- Assumes nothing.
use Rattle.block.specs.declared.verdict.Refusal.{Refusal}
use Rattle.std.specs.Prelude.{Result, Ok, Err}
use Rattle.block.specs.Verdict.{Verdict, Accepted}
use Prim.Native.Nat.{ℕ}
use mathlib.Core.Bool.{true}
use mathlib.Core.List.{List}
use mathlib.Core.Path.{◌≡◌, refl, ap, sym, ◌∙◌}
use lib.ListN.{length}
use lib.Seq.{take_at}
use Rattle.block.specs.Block.{frame, input_count, cone_size}
use Rattle.block.specs.Record.{File}
use Rattle.block.specs.Refusals.{read_checks}
use Rattle.block.specs.Verdict.{verdict}
use Rattle.block.proofs.Frames.{frame_long}
use Rattle.operation.specs.Numbers.{order_numbers}
use Rattle.operation.specs.Operation.{answer_after, buffer_after}
use Rattle.operation.specs.SplitOrder.{names_each, list_bytes, split_order, list_after}
use Rattle.operation.specs.declared.SplitOrder.{SplitOrder}
use Rattle.cases.specs.Choice.{first_undecided}
use Rattle.cases.specs.Search.{search}
use Rattle.cases.specs.SplitOrder.{wider, cone_order, bound_order}
use Rattle.cases.proofs.Alike.{cone_search}
use Rattle.cases.proofs.SplitOrder.{order_long, order_right}
use Rattle.bounds.specs.Bounds.{simulated_drop, envelope_drop}
use Rattle.split_order.specs.SplitOrder.{cone_order_made, BoundOrderArguments, bound_order_verdict, frame_order, BoundOrdered}
use Rattle.search.specs.Search.{search_of}
use Rattle.zimgurav.specs.Accepted.{refused_with}
use Rattle.zimgurav.specs.Calls.{ConeOrderCalled, BoundOrderCalled}
use Rattle.zimgurav.specs.Orders.{list_in, MakersServe}
use Rattle.zimgurav.proofs.Accepted.{accepted_calls}

-- The lent list goes by the verdict, as any lent buffer.
list_after_lem : (v : Verdict) (order given : List ℕ) → list_after (answer_after v (split_order order)) given ≡ buffer_after v (list_bytes order) given
list_after_lem (Ok _) order given = refl
list_after_lem (Err r) order given = refl

module _ (file : File) (order : List ℕ) {made : Result SplitOrder Refusal} {order' numbers : List ℕ} (is : made ≡ cone_order_made file)
    (listed : order' ≡ list_after made order) (told : numbers ≡ order_numbers made) where
  pub cone_called : ConeOrderCalled file order order' numbers
  unfolding cone_order_made
  cone_called = record {
    answered = told ∙ ap order_numbers is;
    written = listed ∙ ap (λ m. list_after m order) is ∙ list_after_lem (verdict (read_checks file)) (cone_order file) order;
  }

module _ (given : BoundOrderArguments) (order : List ℕ) {made : Result SplitOrder Refusal} {work' order' numbers : List ℕ} (is : BoundOrdered given made work')
    (listed : order' ≡ list_after made order) (told : numbers ≡ order_numbers made) where
  pub bound_called : BoundOrderCalled given order work' order' numbers
  bound_called = record {
    answered = told ∙ ap order_numbers is.answered;
    written = listed ∙ ap (λ m. list_after m order) is.answered
        ∙ list_after_lem (bound_order_verdict given) (frame_order given.file given.hops given.table) order;
    kept = is.kept;
  }

-- What an accepted call of a maker leaves in the lent array begins with its list.
list_in_lem : (v : Verdict) (file : File) (order given : List ℕ) {after : List ℕ} → length order ≡ input_count file → after ≡ buffer_after v (list_bytes order) given → v ≡ Accepted
    → list_in file after ≡ order
unfolding list_bytes
list_in_lem v file order given long written accepted =
    ap (list_in file) (written ∙ ap (λ w. buffer_after w (list_bytes order) given) accepted) ∙ take_at order _ (input_count file) long

module _ (file : File) (order order' numbers : List ℕ) (call : ConeOrderCalled file order order' numbers) (zero : refused_with numbers ≡ 0) where
  cone_list : list_in file order' ≡ cone_order file
  unfolding cone_order
  cone_list =
      list_in_lem (verdict (read_checks file)) file (cone_order file) order (order_long (wider (cone_size file)) (input_count file)) call.written
      ((accepted_calls.cone_order_lem file order order' numbers call).zero_means zero)

  cone_right : names_each (input_count file) (list_in file order') ≡ true
  unfolding cone_order
  cone_right = ap (names_each (input_count file)) cone_list ∙ order_right (wider (cone_size file)) (input_count file)

module _ (given : BoundOrderArguments) (order work' order' numbers : List ℕ) (call : BoundOrderCalled given order work' order' numbers)
    (zero : refused_with numbers ≡ 0) where
  abbrev made : List ℕ
  made = frame_order given.file given.hops given.table

  bound_right : names_each (input_count given.file) (list_in given.file order') ≡ true
  unfolding frame_order bound_order
  bound_right =
      ap (names_each (input_count given.file))
      (list_in_lem (bound_order_verdict given) given.file made order (order_long _ (length (frame given.file)) ∙ frame_long given.file) call.written
      ((accepted_calls.bound_order_lem given order work' order' numbers call).zero_means zero))
      ∙ ap (λ n. names_each n made) (sym (frame_long given.file)) ∙ order_right _ (length (frame given.file))

pub makers_serve : MakersServe
unfolding search_of
makers_serve = record {
  cone_passes = cone_right;
  bound_passes = bound_right;
  cone_searches = λ given order order' numbers call zero listed.
      ap
      (λ list. search (simulated_drop given.file given.table) (envelope_drop given.file given.hops given.table) (first_undecided list) given.ratio
      given.budget (frame given.file))
      (listed ∙ cone_list given.file order order' numbers call zero)
      ∙ cone_search (simulated_drop given.file given.table) (envelope_drop given.file given.hops given.table) given.ratio given.budget given.file;
}
