-- `block::reader::check_records` meets its contract. The loop's invariant: what is known of the nets below, and that the verdict
-- on the records from here on is the verdict on all of them.
-- Assumes nothing.
use Rattle.std.specs.Prelude.{Ok}
use Rattle.block.specs.Refusals.{counts}
use Prim.Native.Nat.{◌+◌, ◌-◌}
use mathlib.Core.Path.{◌≡◌, refl, sym, ap, ap₂, ◌∙◌}
use native.Mathlib.Omega.{arith}
use borrow.Author.Rules.{rules}
use Rattle.laws.specs.Below.{count_below}
use Rattle.laws.specs.Turn.{in_turn}
use Rattle.block.specs.Record.{net_count}
use Rattle.block.specs.Block.{arrivals, inputs_below}
use Rattle.block.specs.Refusals.{answer_to}
use Rattle.block.proofs.Verdicts.{handed_on}
use Rattle.block.proofs.Records.{counted_next, records_refused, records_next, records_end}
use Rattle.block.proofs.reader.check_records.Goals as goal

pub loop-net-init : goal.loop-net-init
unfolding inputs_below count_below arrivals in_turn
loop-net-init c =
    let e : c.args.nets - 0 ≡ c.args.nets = omega arith in
    (search rules, record { counted = refl; sized = refl; arrived = refl }, rw e refl)

pub returns-in_err-check_record : goal.returns-in_err-check_record
returns-in_err-check_record c =
    let checked = rw (c.of-record.ensures.0, c.of-record.ensures.1) at c.check_record.ensures in
    let refusal = sym checked.judged ∙ c.in_err-check_record.was in
    handed_on c.from_residual.ensures.1
    (ap (answer_to c.args.file.now) (sym (records_refused _ _ _ c.loop-net-test.true _ refusal) ∙ c.loop-net.invariant.2))

pub loop-net-preserved : goal.loop-net-preserved
loop-net-preserved c =
    let l = c.loop-net in
    let checked = rw (c.of-record.ensures.0, c.of-record.ensures.1) at c.check_record.ensures in
    let one = rw (c.of-record.ensures.0, c.of-record.ensures.1) at c.input_indicator-inputs.ensures.0 in
    let told = c.in_ok-check_record.was in
    let counted = ap (λ n. l.inputs + n) one ∙ counted_next _ _ _ l.invariant.1.counted in
    let rest = records_next _ _ _ c.loop-net-test.true (sym checked.judged ∙ told) ∙ l.invariant.2 in
    (omega arith, record { counted = counted; sized = checked.sized; arrived = checked.arrived told }, rest)

pub returns : goal.returns
returns c =
    let l = c.loop-net in
    let n : l.net ≡ net_count c.args.file.now = omega arith in
    ap₂ (λ m i. Ok (counts m i)) c.requires.0 (l.invariant.1.counted ∙ ap (inputs_below c.args.file.now) n)
    ∙ ap (answer_to _) (sym (records_end _ _ _ c.loop-net-test.false) ∙ l.invariant.2)
