-- Laws of the list by bounds: the numbers give the list, the checks of the arguments, and what the second maker returns.
-- Assumes nothing.
use Rattle.block.specs.declared.verdict.Reason.TheVariants.{WrongHopLimit, WrongBuffer}
use Rattle.std.specs.Prelude.{Result, Ok, Err}
use Rattle.block.specs.Verdict.{Verdict, Accepted}
use Rattle.block.specs.declared.Counts.{Counts}
use Prim.Native.Nat.{ℕ, ◌*◌, ◌≤◌}
use mathlib.Core.List.{List, ◌++◌}
use mathlib.Core.Path.{◌≡◌, refl, ap, sym, ◌∙◌}
use lib.ListN.{length}
use borrow.Author.Tests.{leb-true}
use Rattle.excitation.specs.UncertaintySet.{sets_in}
use Rattle.excitation.proofs.Codes.{sets_long}
use Rattle.block.specs.Block.{frame, input_count}
use Rattle.block.specs.Record.{File, net_count}
use Rattle.block.specs.Refusals.{read_checks, read_of}
use Rattle.block.specs.Verdict.{Check, verdict}
use Rattle.block.specs.declared.verdict.Refusal.{Refusal}
use Rattle.block.proofs.Fields.{within_low}
use Rattle.block.proofs.Frames.{frame_long}
use Rattle.block.proofs.Verdicts.{listed, listing}
use Rattle.operation.specs.Operation.{answer_after, WorkAfter}
use Rattle.operation.specs.SplitOrder.{list_bytes, split_order}
use Rattle.operation.specs.declared.SplitOrder.{SplitOrder}
use Rattle.operation.proofs.Operations.{by_file, by_arguments, file_accepted}
use Rattle.evaluation.specs.declared.Setting.{Setting}
use Rattle.cases.specs.SplitOrder.{in_order, tighter, bound_order}
use Rattle.cases.proofs.SplitOrder.{order_long, order_same}
use Rattle.bounds.specs.Bounds.{simulated_drop, envelope_drop}
use Rattle.split_order.specs.Sorting.{smaller, SortsBy}
use Rattle.split_order.specs.SplitOrder.{BoundOrderArguments, bound_order_checks, bound_order_verdict, frame_order, BoundOrdered}
use Rattle.split_order.specs.declared.key.Four.{Four}
use Rattle.split_order.specs.Trying.{tighter_in}

-- The list by the numbers is the list by bounds.
pub listed_by_bounds : (setting : Setting) (codes : List ℕ) (keys : List Four) {bytes : List ℕ} → sets_in setting.inputs codes ≡ frame setting.file.now
    → SortsBy (tighter_in setting codes) setting.inputs keys → bytes ≡ list_bytes (in_order (smaller keys) setting.inputs)
    → bytes ≡ list_bytes (frame_order setting.file.now setting.hops setting.table.now)
unfolding frame_order bound_order
listed_by_bounds setting codes keys is sorts made =
    let file = setting.file.now in
    let table = setting.table.now in
    made
    ∙ ap list_bytes (order_same (smaller keys) (tighter_in setting codes) setting.inputs sorts.same)
    ∙ ap (λ n. list_bytes (in_order (tighter_in setting codes) n)) (sym (sets_long setting.inputs codes))
    ∙ ap (λ sets. list_bytes (in_order (tighter (simulated_drop file table) (envelope_drop file setting.hops table) sets) (length sets))) is

frame_order_long : (file : File) (hops : ℕ) (table : List ℕ) → length (frame_order file hops table) ≡ input_count file
unfolding frame_order bound_order
frame_order_long file hops table = order_long _ (length (frame file)) ∙ frame_long file

-- What checks that passed say of the arguments.
pub record ArgumentsRight (nets hops table work : ℕ) : Type 0 where
  pub some_hops : 1 ≤ hops
  pub work_long : 160 * nets ≤ work

pub arguments_right : (nets hops table work : ℕ) → verdict (bound_order_checks nets hops table work) ≡ Accepted → ArgumentsRight nets hops table work
unfolding bound_order_checks
arguments_right nets hops table work e = record {
  some_hops = within_low 1 16 hops (listed _ e WrongHopLimit 0 _ (search listing));
  work_long = leb-true (160 * nets) work (listed _ e WrongBuffer 3 _ (search listing));
}

module _ (given : BoundOrderArguments) {read : Result Counts Refusal} (is : read ≡ read_of given.file) where
  abbrev checks : ℕ → ℕ → List Check
  checks nets inputs = bound_order_checks nets given.hops (length given.table) (length given.work)

  abbrev order : List ℕ
  order = frame_order given.file given.hops given.table

  -- What the second maker promises, by the verdict.
  abbrev Promised : Result SplitOrder Refusal → List ℕ → Verdict → Type 0
  Promised made work' v = (made ≡ answer_after v (split_order order)) × WorkAfter v given.work work'

  ordered : (made : Result SplitOrder Refusal) (work' : List ℕ)
      → Promised made work' (verdict (read_checks given.file ++ checks (net_count given.file) (input_count given.file))) → BoundOrdered given made work'
  unfolding bound_order_verdict
  ordered made work' p = record { answered = p.0; kept = p.1 }

  pub file_refused : (r : Refusal) {made : Result SplitOrder Refusal} → read ≡ Err r → made ≡ Err r → BoundOrdered given made given.work
  file_refused r told refused = ordered _ _ (by_file given.file checks (Promised _ _) is told (refused, refl))

  module _ (found : Counts) (told : read ≡ Ok found) {v : Verdict} (checked : v ≡ verdict (checks found.nets found.inputs)) where
    pub argument_refused : (r : Refusal) {made : Result SplitOrder Refusal} → v ≡ Err r → made ≡ Err r → BoundOrdered given made given.work
    argument_refused r said refused = ordered _ _ (by_arguments given.file checks (Promised _ _) is told checked said (refused, refl))

    pub list_made : {bytes work' : List ℕ} → v ≡ Accepted → bytes ≡ list_bytes order
        → BoundOrdered given (Ok (record { inputs = found.inputs; nets = bytes })) work'
    list_made said made =
        let n : found.inputs ≡ length order = sym (frame_order_long given.file given.hops given.table ∙ (file_accepted is told).input_count_lem) in
        ordered _ _ (by_arguments given.file checks (Promised _ _) is told checked said (rw (n, made) refl, tt))
