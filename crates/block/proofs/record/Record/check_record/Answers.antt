-- `block::record::Record::check_record` meets its contract. The verdict on the fields comes first, then that on the arrival.
-- Assumes nothing.
use Prim.Native.Nat.{◌%◌}
use mathlib.Core.Path.{◌≡◌, refl, sym, ap, ◌∙◌}
use native.Mathlib.Omega.{arith}
use lib.ListN.{length-set}
use Rattle.block.specs.Block.{arrival_from, arrival}
use Rattle.block.proofs.Accepted.{arrival_in_time_lem}
use Rattle.block.proofs.Verdicts.{apart, handed_on}
use Rattle.block.proofs.Records.{fields_refused, record_judged, arrived_next}
use Rattle.block.proofs.record.Record.check_record.Goals as goal

pub returns-in_err-check_fields : goal.returns-in_err-check_fields
returns-in_err-check_fields c =
    let refused = handed_on c.from_residual.ensures.1 refl in
    record {
      judged = refused ∙ sym (fields_refused _ _ _ (sym c.check_fields.ensures ∙ c.in_err-check_fields.was));
      sized = c.requires.sized;
      arrived = λ e. apart _ (sym refused ∙ e);
    }

pub returns : goal.returns
returns c =
    let a : c.arrival-a.result ≡ arrival c.args.self.file.now c.args.self.net.0 =
    c.arrival-a.ensures ∙ ap (λ e. arrival_from c.args.self.file.now e c.args.self.net.0) c.requires.arrived in
    let judged = record_judged _ _ (sym c.check_fields.ensures ∙ c.in_ok-check_fields.was) a c.check.ensures in
    record {
      judged = judged;
      sized = simp length-set c.requires.sized;
      arrived = λ e.
          let in_time = arrival_in_time_lem _ _ (sym judged ∙ e) in
          let kept : c.arrival-a.result % 256 ≡ c.arrival-a.result = omega arith in
          arrived_next _ _ _ _ (omega arith) c.requires.arrived (kept ∙ a);
    }
