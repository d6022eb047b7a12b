-- Laws of the zeros below the lowest set bit of a word.
-- Assumes nothing.
use Prim.Native.Nat.{ℕ, zero, suc, ◌*◌, ◌/◌, ◌%◌, ◌^◌, ◌<◌}
use mathlib.Core.Bool.{true, false}
use mathlib.Core.Path.{◌≡◌, refl, ap, ◌∙◌}
use native.Mathlib.Nat.{pow-suc}
use native.Mathlib.Omega.{arith}
use lib.Count.{count_trailing_zeros, under}
use lib.Dec.{eqb}
use Rattle.bits.specs.Bits.{bit_at}
use Rattle.bits.proofs.Bits.{bit_low, bit_next}

pub zeros_clear : (n x k : ℕ) → k < count_trailing_zeros n x → bit_at x k ≡ false
unfolding count_trailing_zeros
zeros_clear zero x k h = absurd (omega arith)
zeros_clear (suc n) x k h = go (zeros_clear n (x / 2)) (x % 2) refl k h
  where
    go : ((k : ℕ) → k < count_trailing_zeros n (x / 2) → bit_at (x / 2) k ≡ false) → (d : ℕ) → x % 2 ≡ d
        → (k : ℕ) → k < under d (count_trailing_zeros n (x / 2)) → bit_at x k ≡ false
    go rest zero e zero l = bit_low x ∙ ap (λ d. eqb d 1) e
    go rest zero e (suc k) l = bit_next x k ∙ rest k (omega arith)
    go rest (suc d) e k l = absurd (omega arith)

pub zeros_set : (n x : ℕ) → count_trailing_zeros n x < n → bit_at x (count_trailing_zeros n x) ≡ true
unfolding count_trailing_zeros
zeros_set zero x h = absurd (omega arith)
zeros_set (suc n) x h = go (zeros_set n (x / 2)) (x % 2) refl h
  where
    go : (count_trailing_zeros n (x / 2) < n → bit_at (x / 2) (count_trailing_zeros n (x / 2)) ≡ true) → (d : ℕ) → x % 2 ≡ d
        → under d (count_trailing_zeros n (x / 2)) < suc n → bit_at x (under d (count_trailing_zeros n (x / 2))) ≡ true
    go rest zero e l = bit_next x (count_trailing_zeros n (x / 2)) ∙ rest (omega arith)
    go rest (suc d) e l = let one : x % 2 ≡ 1 = omega arith in bit_low x ∙ ap (λ d. eqb d 1) one

pub zeros_below : (n x : ℕ) → 0 < x → x < 2 ^ n → count_trailing_zeros n x < n
unfolding count_trailing_zeros
zeros_below zero x p h = absurd (omega arith)
zeros_below (suc n) x p h = go (λ q. zeros_below n (x / 2) q (half (2 ^ n) (pow-suc 2 n))) (x % 2) refl
  where
    half : (q : ℕ) → 2 ^ suc n ≡ q * 2 → x / 2 < q
    half q e = omega arith

    go : (0 < x / 2 → count_trailing_zeros n (x / 2) < n) → (d : ℕ) → x % 2 ≡ d → under d (count_trailing_zeros n (x / 2)) < suc n
    go rest zero e = let l = rest (omega arith) in omega arith
    go rest (suc d) e = omega arith
