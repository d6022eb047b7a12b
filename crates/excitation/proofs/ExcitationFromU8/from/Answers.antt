-- `excitation::ExcitationFromU8::from` meets its contract.
-- Assumes nothing.
use mathlib.Core.Path.{refl, sym}
use native.Mathlib.Omega.{arith}
use Rattle.excitation.specs.Excitation.{excitation_of}
use Rattle.excitation.proofs.Bytes.{byte_other}
use Rattle.excitation.proofs.ExcitationFromU8.from.Goals as goal

pub returns-in-1 : goal.returns-in-1
unfolding excitation_of
returns-in-1 c = let e = c.in-1.is in rw e refl

pub returns-in-2 : goal.returns-in-2
unfolding excitation_of
returns-in-2 c = let e = c.in-2.is in rw e refl

pub returns-in-3 : goal.returns-in-3
unfolding excitation_of
returns-in-3 c = let e = c.in-3.is in rw e refl

pub returns-in_default : goal.returns-in_default
returns-in_default c = sym (byte_other _ (λ e. omega arith) (λ e. omega arith) (λ e. omega arith))
