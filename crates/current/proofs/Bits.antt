-- The words of rows of bits: those of a row that has no tick, and those of rows made from two others tick by tick.
-- Assumes nothing.
use Rattle.std.proofs.Common.{◌≡◌, ℕ, ◌-◌, ◌/◌, ◌%◌, ◌^◌, ◌<◌, ◌&&◌, List, [], ◌∷◌, length, get_or, ap, ◌∙◌, arith}
use Rattle.std.proofs.lemmas.List.{get_or-replicate}
use lib.Bits.{bit_and, bit_or}
use Rattle.bits.specs.Bits.{bit_at, row_bit}
use Rattle.bits.proofs.Bits.{bit_and_lem, bit_or_lem, bit_not, bit_zero}
use Rattle.current.specs.Edges.{NoTick, Without, Either}

-- A row of words that are 0 has no tick.
pub no_tick : {ticks : List ℕ} → ticks ≡ 0 ∷ 0 ∷ 0 ∷ 0 ∷ [] → NoTick ticks
unfolding row_bit
no_tick e t h = rw e (ap (λ word. bit_at word (t % 64)) (get_or-replicate 4 (t / 64) 0 0 (omega arith)) ∙ bit_zero (t % 64))

-- The ticks of one row that are not ticks of another.
pub ticks_without : {ticks others rest : List ℕ} → ((i : ℕ) → get_or others i 0 < 2 ^ 64) → length rest ≡ 4
    → ((i : ℕ) → i < 4 → get_or rest i 0 ≡ bit_and (get_or ticks i 0) (2 ^ 64 - 1 - get_or others i 0)) → Without ticks others rest
unfolding row_bit
ticks_without {ticks} {others} fits long words = record {
  long = long;
  at = λ t h. ap (λ word. bit_at word (t % 64)) (words (t / 64) (omega arith))
      ∙ bit_and_lem (get_or ticks (t / 64) 0) (2 ^ 64 - 1 - get_or others (t / 64) 0) (t % 64)
      ∙ ap (λ b. bit_at (get_or ticks (t / 64) 0) (t % 64) && b) (bit_not 64 (get_or others (t / 64) 0) (t % 64) (fits (t / 64)) (omega arith));
}

-- The ticks of either row.
pub ticks_of_either : {ticks others all : List ℕ} → length all ≡ 4 → ((i : ℕ) → i < 4 → get_or all i 0 ≡ bit_or (get_or ticks i 0) (get_or others i 0))
    → Either ticks others all
unfolding row_bit
ticks_of_either {ticks} {others} long words = record {
  long = long;
  at = λ t h. ap (λ word. bit_at word (t % 64)) (words (t / 64) (omega arith)) ∙ bit_or_lem (get_or ticks (t / 64) 0) (get_or others (t / 64) 0) (t % 64);
}
