-- Laws of a scan for the first number at which a function is greatest.
-- Assumes nothing.
use Prim.Native.Nat.{ℕ, ◌+◌, ◌≤◌, ◌<◌}
use mathlib.Core.Path.{◌≡◌, refl, ap, sym, ◌∙◌}
use native.Mathlib.Omega.{arith}
use borrow.Author.Tests.{lt-ltb, le-ltb}
use Rattle.laws.specs.Below.{argmax}
use Rattle.laws.proofs.Below.{argmax_next}

-- What a scan of the first n numbers knows: the first at which f is greatest, and what f is there.
pub record GreatestSoFar (f : ℕ → ℕ) (n best most : ℕ) : Type 0 where
  pub first : best ≡ argmax n f
  pub value : most ≡ f best
  pub inside : best < n

pub greatest_one : (f : ℕ → ℕ) (most : ℕ) → most ≡ f 0 → GreatestSoFar f 1 0 most
unfolding argmax
greatest_one f most e = record { first = sym (argmax_next 0 f ∙ rw (le-ltb (f 0) (f 0) (omega arith)) refl); value = e; inside = omega arith }

-- One number more, and what is best then.
module _ (f : ℕ → ℕ) (n best most here best' most' : ℕ) (so_far : GreatestSoFar f n best most) (value : here ≡ f n) where
  most_is : most ≡ f (argmax n f)
  most_is = so_far.value ∙ ap f so_far.first

  pub greatest_replaced : most < here → best' ≡ n → most' ≡ here → GreatestSoFar f (n + 1) best' most'
  greatest_replaced h e m = record {
    first = e ∙ sym (argmax_next n f ∙ rw (lt-ltb (f (argmax n f)) (f n) (omega (arith, most_is, value))) refl);
    value = m ∙ value ∙ ap f (sym e);
    inside = omega arith;
  }

  pub greatest_kept : here ≤ most → best' ≡ best → most' ≡ most → GreatestSoFar f (n + 1) best' most'
  greatest_kept h e m = record {
    first = e ∙ so_far.first ∙ sym (argmax_next n f ∙ rw (le-ltb (f (argmax n f)) (f n) (omega (arith, most_is, value))) refl);
    value = m ∙ so_far.value ∙ ap f (sym e);
    inside = omega (arith, so_far.inside);
  }
