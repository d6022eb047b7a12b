-- `block::kind::gate_rule` meets its contract. Each range of the match has two kinds, and the rule is computed at both.
-- Assumes nothing.
use mathlib.Core.Path.{◌≡◌, refl, ap, sym}
use mathlib.Core.Bool.{false}
use lib.Dec.{eqb}
use lib.ListN.{get_or-eq_default}
use native.Mathlib.Omega.{arith}
use Rattle.laws.proofs.Numbers.{of_two}
use Rattle.excitation.specs.declared.Join.TheVariants as by
use Rattle.block.specs.Kind.{NONE, kinds, kind_of, rule, rule_of}
use Rattle.block.proofs.kind.gate_rule.Goals as goal

pub returns-in-2-to-3 : goal.returns-in-2-to-3
unfolding kind_of
returns-in-2-to-3 c = of_two (λ k. rule 2 4 by.And (eqb k 3) ≡ rule_of (kind_of k)) 2 refl refl c.args.kind (omega arith) (omega arith)

pub returns-in-4-to-5 : goal.returns-in-4-to-5
unfolding kind_of
returns-in-4-to-5 c = of_two (λ k. rule 2 4 by.Or (eqb k 5) ≡ rule_of (kind_of k)) 4 refl refl c.args.kind (omega arith) (omega arith)

pub returns-in-6-to-7 : goal.returns-in-6-to-7
unfolding kind_of
returns-in-6-to-7 c = of_two (λ k. rule 2 4 by.Xor (eqb k 7) ≡ rule_of (kind_of k)) 6 refl refl c.args.kind (omega arith) (omega arith)

pub returns-in-8-to-9 : goal.returns-in-8-to-9
unfolding kind_of
returns-in-8-to-9 c = of_two (λ k. rule 1 1 by.And (eqb k 8) ≡ rule_of (kind_of k)) 8 refl refl c.args.kind (omega arith) (omega arith)

pub returns-in_default : goal.returns-in_default
unfolding kind_of
returns-in_default c = of_two (λ k. rule 1 0 by.And false ≡ rule_of (kind_of k)) 0 refl refl c.args.kind (omega arith) (omega arith)

pub returns-in_default-2 : goal.returns-in_default-2
unfolding kind_of
returns-in_default-2 c = ap rule_of (sym (get_or-eq_default kinds NONE (omega arith)))
