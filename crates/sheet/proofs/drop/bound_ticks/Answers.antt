-- `sheet::drop::bound_ticks` meets its contract.
-- Assumes nothing.
use Rattle.std.proofs.Common.{length, ap, arith}
use Rattle.sheet.proofs.Drops.{bounds_none, bound_small, bounds_next, bounds_all}
use Rattle.sheet.proofs.drop.bound_ticks.Goals as goal

pub loop-contact-init : goal.loop-contact-init
loop-contact-init c = bounds_none c.args.table.now c.args.sheet.now c.requires.1

pub add_contact-requires : goal.add_contact-requires
add_contact-requires c =
    let loop = c.loop-contact in
    record {
      long = omega (arith, loop.invariant.long, ap length c.requires.1);
      sheet_long = c.requires.0.quiet.long;
      in_row = c.requires.0.quiet.ticks;
      place = omega arith;
      small = bound_small c.args.table.now c.args.sheet.now _ loop.contact loop.invariant c.most_resistance-resistance.ensures (omega arith) (omega arith)
          (λ i. omega (arith, c.type_inv.table i)) c.requires.0;
    }

pub loop-contact-preserved : goal.loop-contact-preserved
loop-contact-preserved c =
    let loop = c.loop-contact in
    bounds_next c.args.table.now c.args.sheet.now _ loop.contact loop.invariant c.most_resistance-resistance.ensures (omega arith) c.add_contact.ensures

pub returns : goal.returns
returns c =
    let loop = c.loop-contact in
    bounds_all c.args.table.now c.args.sheet.now loop.contact (omega arith) loop.invariant
