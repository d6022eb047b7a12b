-- Laws of the zeros above the highest set bit of a word.
-- Assumes nothing.
use Prim.Native.Nat.{ℕ, suc, ◌+◌, ◌/◌, ◌%◌, ◌^◌, ◌<◌}
use mathlib.Core.Bool.{true, false}
use mathlib.Core.Path.{◌≡◌, ap, sym, ◌∙◌}
use native.Mathlib.Nat.{div-eq_of_lt-le, one-mul, pow-succ'}
use native.Mathlib.Omega.{arith}
use lib.Count.{count_leading_zeros, leading_top}
use lib.Dec.{eqb}
use Rattle.bits.specs.Bits.{bit_at}
use Rattle.bits.proofs.Bits.{bit_above}

-- A word of w bits that is not 0 has fewer than w of them.
pub leading_few : (w a : ℕ) → 0 < a → a < 2 ^ w → count_leading_zeros w a < w
leading_few w a some fits = let top = leading_top w a some fits in omega (arith, top.1)

-- Above its highest set bit all bits are clear.
pub leading_clear : (w a k : ℕ) → 0 < a → a < 2 ^ w → w < count_leading_zeros w a + suc k → bit_at a k ≡ false
leading_clear w a k some fits h = let top = leading_top w a some fits in bit_above (suc top.0) a k top.3 (omega (arith, top.1))

-- The bit below the leading zeros is set.
pub leading_set : (w a k : ℕ) → 0 < a → a < 2 ^ w → count_leading_zeros w a + suc k ≡ w → bit_at a k ≡ true
unfolding bit_at
leading_set w a k some fits e =
    let top = leading_top w a some fits in
    let place : top.0 ≡ k = omega (arith, top.1) in
    let one : a / 2 ^ top.0 ≡ 1 = div-eq_of_lt-le (2 ^ top.0) (rw (one-mul (2 ^ top.0)) top.2) (rw (sym (pow-succ' 2 top.0)) top.3) in
    ap (λ n. eqb (n % 2) 1) (ap (λ j. a / 2 ^ j) (sym place) ∙ one)
