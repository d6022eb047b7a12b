-- `rows::part::read_from` meets its contract.
-- Assumes nothing.
use Prim.Native.Nat.{ℕ, ◌+◌}
use mathlib.Core.Path.{◌≡◌, ap, ◌∙◌}
use Rattle.bits.specs.Bits.{bit_at}
use Rattle.excitation.proofs.Sets.{four_members}
use Rattle.parts.specs.Parts.{set_at}
use Rattle.numbers.specs.Words.{word_from}
use Rattle.rows.specs.Rows.{bit_from, set_from}
use Rattle.rows.proofs.Rows.{word_bit}
use Rattle.rows.proofs.part.read_from.Goals as goal

pub returns : goal.returns
unfolding set_at set_from
returns c k h =
    let bytes = c.args.bytes.now in
    let at = c.args.at in
    let bit : (place : ℕ) → bit_at (word_from 3 bytes place) k ≡ bit_from bytes place k = λ place. word_bit bytes (λ i. (c.type_inv.bytes i).fits) 3 place k h in
    four_members
    (ap (λ x. bit_at x k) c.read_word.ensures ∙ bit at)
    (ap (λ x. bit_at x k) c.read_word-2.ensures ∙ bit (at + 8))
    (ap (λ x. bit_at x k) c.read_word-3.ensures ∙ bit (at + 16))
    (ap (λ x. bit_at x k) c.read_word-4.ensures ∙ bit (at + 24))
