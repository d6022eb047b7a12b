-- `block::record::Record::gate` meets its contract.
-- Assumes nothing.
use borrow.Author.Rules.{rules}
use Rattle.block.proofs.Views.{gate_is}
use Rattle.block.proofs.record.Record.gate.Goals as goal

pub returns : goal.returns
returns c = record {
  is = gate_is _ _ c.kind.ensures.0 c.contact.ensures.0 c.delay.ensures.0 c.pin_count.ensures.0
      c.pin.ensures c.pin-2.ensures c.pin-3.ensures c.pin-4.ensures
      c.rise.ensures.0 c.fall.ensures.0 c.peak_lh.ensures.0 c.peak_hl.ensures.0;
  fits = record {
    contact_high = search rules;
    delay_high = search rules;
    rise_high = search rules;
    fall_high = search rules;
    peak_lh_high = search rules;
    peak_hl_high = search rules;
  };
}
