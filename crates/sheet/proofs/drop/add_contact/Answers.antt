-- `sheet::drop::add_contact` meets its contract.
-- Assumes nothing.
use Rattle.std.proofs.Common.{refl, arith}
use Rattle.laws.proofs.Rewritten.{rewritten_next}
use Rattle.sheet.proofs.Drops.{to_contact, contact_fits}
use Rattle.sheet.proofs.drop.add_contact.Goals as goal

pub overflow_mul-sums : goal.overflow_mul-sums
overflow_mul-sums c = omega (arith, contact_fits c.requires (omega arith) c.loop-t.invariant refl)

pub overflow_add-sums-in-loop-t : goal.overflow_add-sums-in-loop-t
overflow_add-sums-in-loop-t c = omega (arith, contact_fits c.requires (omega arith) c.loop-t.invariant refl)

pub loop-t-preserved : goal.loop-t-preserved
loop-t-preserved c =
    let loop = c.loop-t in
    rewritten_next _ 0 loop.t _ _ _ _ (omega arith) (omega (arith, c.requires.long, c.requires.in_row))
    (to_contact c.args.resistance c.args.sheet.now c.args.start loop.invariant refl) loop.invariant
