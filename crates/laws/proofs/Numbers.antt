-- Laws of numbers: what holds of some of them and of the others, and places in records.
-- Assumes nothing.
use Prim.Native.Nat.{ℕ, ◌+◌, ◌*◌, ◌≤◌, ◌<◌}
use mathlib.Core.Path.{◌≡◌, sym, subst}
use mathlib.Core.Logic.{◌⊎◌, inl, inr, ⊎_elim}
use native.Mathlib.Nat.{eq-or-lt_of_le, mul-le-mul_left}
use native.Mathlib.Omega.{arith}
use lib.Dec.{eqb, ltb}
use borrow.Author.Tests.{eqb-true, eqb-false, ltb-true, ltb-false}
use borrow.Table.Steps.{cases}

-- What holds of n and of n + 1 holds of whichever of the two a number is.
pub of_two : (P : ℕ → Type 0) (n : ℕ) → P n → P (n + 1) → (k : ℕ) → n ≤ k → k < n + 2 → P k
of_two P n first second k low high =
    ⊎_elim (λ (e : n ≡ k). subst P e first) (λ l. let e : n + 1 ≡ k = omega arith in subst P e second) (eq-or-lt_of_le low)

-- What holds of one number and of every other holds of each.
pub of_each : (P : ℕ → Type 0) (at : ℕ) → P at → ((k : ℕ) → (k ≡ at → ⊥) → P k) → (k : ℕ) → P k
of_each P at here other k = cases (eqb k at) (λ t. subst P (sym (eqb-true k at t)) here) (λ t. other k (eqb-false k at t))

-- Records of one size, one after the other: a place in another record lies before the record or after it.
pub outside_record : (size at k j : ℕ) → (k ≡ at → ⊥) → j < size → (size * k + j < size * at) ⊎ (size * at + size ≤ size * k + j)
outside_record size at k j other inside =
    cases (ltb k at)
    (λ t. inl (omega (arith, mul-le-mul_left size (ltb-true k at t))))
    (λ t. let past : at + 1 ≤ k = omega (arith, ltb-false k at t) in inr (omega (arith, mul-le-mul_left size past)))
