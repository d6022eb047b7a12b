-- Laws of the search for a level in a row, a word at a time.
-- Assumes nothing.
use Prim.Native.Nat.{ℕ, ◌+◌, ◌*◌, ◌-◌, ◌/◌, ◌%◌, ◌^◌, ◌≤◌, ◌<◌}
use mathlib.Core.Bool.{Bool, true, false, not, xor, false≢true}
use mathlib.Core.List.{List}
use mathlib.Core.Path.{◌≡◌, refl, ap, ap₂, sym, subst, ◌∙◌}
use native.Mathlib.Nat.{lt_of_le_of_lt}
use native.Mathlib.Omega.{arith}
use lib.Bits.{bit_xor, xor_lt}
use lib.Count.{count_trailing_zeros}
use lib.Dec.{ltb, lit<}
use lib.Pow.{shr_le}
use lib.ListN.{get_or}
use borrow.Author.Tests.{ltb-true, ltb-false}
use borrow.Table.Steps.{cases}
use Rattle.laws.proofs.Tests.{xor_fails}
use Rattle.bits.specs.Bits.{bit_at, row_bit}
use Rattle.bits.proofs.Bits.{bit_xor_lem, bit_shr, bit_zero, bit_above, bit_not}
use Rattle.runs.specs.Rows.{NextAt}
use Rattle.runs.proofs.Zeros.{zeros_clear, zeros_set, zeros_below}

-- The word by which a row is turned over, or not.
abbrev pub flip_for : Bool → ℕ
flip_for true = 0
flip_for false = 2 ^ 64 - 1

flip_bit : (level : Bool) (k : ℕ) → k < 64 → bit_at (flip_for level) k ≡ not level
flip_bit true k h = bit_zero k
flip_bit false k h = bit_not 64 0 k (lit< tt) h ∙ ap not (bit_zero k)

flip_fits : (level : Bool) → flip_for level < 2 ^ 64
flip_fits true = lit< tt
flip_fits false = lit< tt

-- What a bit is, where the bit turned over is set.
turned : (b level : Bool) → xor b (not level) ≡ true → b ≡ level
unfolding xor
turned true true e = refl
turned true false e = sym e
turned false true e = e
turned false false e = refl

-- The ticks from `from` to before `at` do not have the level.
pub record Passed (level : Bool) (row : List ℕ) (from at : ℕ) : Type 0 where
  pub low : from ≤ at
  pub high : at ≤ 256
  pub other : (t : ℕ) → from ≤ t → t < at → row_bit row t ≡ not level

pub passed_none : (level : Bool) (row : List ℕ) (from : ℕ) → from ≤ 256 → Passed level row from from
passed_none level row from h = record { low = omega arith; high = h; other = λ t a b. absurd (omega arith) }

pub passed_all : {level : Bool} {row : List ℕ} {from at : ℕ} → Passed level row from at → 256 ≤ at → NextAt level row from at
passed_all p all = record { low = p.low; high = p.high; other = p.other; found = λ h. absurd (omega arith) }

-- What the code looks at: the bits of a word from a tick on, turned over or not.
abbrev pub looked_at : List ℕ → ℕ → ℕ → ℕ
looked_at row flip at = bit_xor (get_or row (at / 64) 0) flip / 2 ^ (at % 64)

module _ (level : Bool) (row : List ℕ) (flip at : ℕ) (flips : flip ≡ flip_for level) (fits : get_or row (at / 64) 0 < 2 ^ 64) where
  abbrev word : ℕ
  word = bit_xor (get_or row (at / 64) 0) flip

  word_fits : word < 2 ^ 64
  word_fits = xor_lt 64 (get_or row (at / 64) 0) flip fits (subst (λ x. x < 2 ^ 64) (sym flips) (flip_fits level))

  abbrev looked : ℕ
  looked = looked_at row flip at

  looked_bit : (k : ℕ) → at % 64 + k < 64 → bit_at looked k ≡ xor (row_bit row (at + k)) (not level)
  unfolding row_bit
  looked_bit k h =
      let p : at / 64 ≡ (at + k) / 64 = omega arith in
      let q : at % 64 + k ≡ (at + k) % 64 = omega arith in
      bit_shr word (at % 64) k
      ∙ bit_xor_lem (get_or row (at / 64) 0) flip (at % 64 + k)
      ∙ ap₂ xor (ap₂ (λ i j. bit_at (get_or row i 0) j) p q) (ap (λ x. bit_at x (at % 64 + k)) flips ∙ flip_bit level (at % 64 + k) h)

  inside : (k : ℕ) → bit_at looked k ≡ true → at % 64 + k < 64
  inside k e =
      cases (ltb (at % 64 + k) 64) (λ t. ltb-true (at % 64 + k) 64 t)
      (λ t. absurd (false≢true (sym (above (ltb-false (at % 64 + k) 64 t)) ∙ e)))
    where
      above : 64 ≤ at % 64 + k → bit_at looked k ≡ false
      above l = bit_shr word (at % 64) k ∙ bit_above 64 word (at % 64 + k) word_fits l

  -- A bit that is not set is set in the row at the other level.
  unset : (t : ℕ) → at ≤ t → at % 64 + (t - at) < 64 → bit_at looked (t - at) ≡ false → row_bit row t ≡ not level
  unset t l h e =
      let back : at + (t - at) ≡ t = omega arith in
      ap (row_bit row) (sym back) ∙ xor_fails (row_bit row (at + (t - at))) (not level) (sym (looked_bit (t - at) h) ∙ e)

  module _ (from : ℕ) (so_far : Passed level row from at) (early : at < 256) where
    -- The word has a set bit: the lowest is the one.
    pub next_found : (looked ≡ 0 → ⊥) → NextAt level row from (at + count_trailing_zeros 64 looked)
    next_found some =
        let z = count_trailing_zeros 64 looked in
        let positive : 0 < looked = omega arith in
        let fit = lt_of_le_of_lt (shr_le word (at % 64)) word_fits in
        let set : bit_at looked z ≡ true = zeros_set 64 looked (zeros_below 64 looked positive fit) in
        let in_word = inside z set in
        record {
          low = omega (arith, so_far.low);
          high = omega arith;
          other = λ t a b.
              cases (ltb t at)
              (λ u. so_far.other t a (ltb-true t at u))
              (λ u. let l = ltb-false t at u in unset t l (omega arith) (zeros_clear 64 looked (t - at) (omega arith)));
          found = λ h. turned (row_bit row (at + z)) level (sym (looked_bit z in_word) ∙ set);
        }

    -- It has none: the next word is looked at.
    pub next_word : looked ≡ 0 → Passed level row from (64 * (at / 64 + 1))
    next_word none = record {
      low = omega (arith, so_far.low);
      high = omega arith;
      other = λ t a b.
          cases (ltb t at)
          (λ u. so_far.other t a (ltb-true t at u))
          (λ u. let l = ltb-false t at u in unset t l (omega arith) (ap (λ x. bit_at x (t - at)) none ∙ bit_zero (t - at)));
    }
