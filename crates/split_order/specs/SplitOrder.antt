-- The two makers of a list of inputs in the order to be split (request 6): their checks, their answers and their buffers.
use Rattle.std.specs.Prelude.{Result}
use Rattle.block.specs.declared.verdict.Refusal.{Refusal}
use Rattle.block.specs.Verdict.{Verdict}
use Rattle.std.specs.Prelude.{ℕ, List, [], ◌∷◌, ◌++◌, ◌≡◌, length}
use Rattle.block.specs.Block.{frame}
use Rattle.block.specs.Record.{File, net_count}
use Rattle.block.specs.Refusals.{read_checks}
use Rattle.block.specs.Verdict.{Check, verdict}
use Rattle.operation.specs.Arguments.{hops_check, table_check, work_check}
use Rattle.operation.specs.Operation.{answer_after, WorkAfter}
use Rattle.operation.specs.SplitOrder.{split_order}
use Rattle.operation.specs.declared.SplitOrder.{SplitOrder}
use Rattle.cases.specs.SplitOrder.{cone_order, bound_order}
use Rattle.bounds.specs.Bounds.{simulated_drop, envelope_drop}

-- The first maker takes the file alone, and makes its checks.
unfoldable pub cone_order_made : File → Result SplitOrder Refusal
cone_order_made file = answer_after (verdict (read_checks file)) (split_order (cone_order file))

-- The second maker takes file, hop limit, table and work buffer, as they are lent.
pub record BoundOrderArguments : Type 0 where
  pub file : File
  pub hops : ℕ
  pub table : List ℕ
  pub work : List ℕ

-- The checks of its arguments beside the file: hop limit, length of the table and, with the count of nets, of the work buffer.
unfoldable pub bound_order_checks : ℕ → ℕ → ℕ → ℕ → List Check
bound_order_checks nets hops table work = hops_check hops ∷ table_check table ∷ work_check nets work ∷ []

-- The verdict on all of its checks, in order.
unfoldable pub bound_order_verdict : BoundOrderArguments → Verdict
bound_order_verdict given =
    verdict
    (read_checks given.file
    ++ bound_order_checks (net_count given.file) given.hops (length given.table) (length given.work))

-- The list of the block's frame, with its hop limit and table.
unfoldable pub frame_order : File → ℕ → List ℕ → List ℕ
frame_order file hops table = bound_order (simulated_drop file table) (envelope_drop file hops table) (frame file)

-- What the second maker promises: its answer with its list, and its work buffer.
pub record BoundOrdered (given : BoundOrderArguments) (made : Result SplitOrder Refusal) (work' : List ℕ) : Type 0 where
  pub answered : made ≡ answer_after (bound_order_verdict given) (split_order (frame_order given.file given.hops given.table))
  pub kept : WorkAfter (bound_order_verdict given) given.work work'
