-- The level that the code takes by a factor is the level of the definition.
-- Assumes nothing.
use Rattle.std.proofs.Common.{◌≡◌, ℕ, ◌+◌, ◌*◌, ◌/◌, ◌%◌, ◌<◌, ◌≤◌, eqb, sym, ap, ◌∙◌, mod-lt, mul-le-mul, mul-le-mul_left, mul-lt-mul_of_pos_right, div-add-mod', div-mul-le_self, arith, eqb-true}
use native.Mathlib.Nat.{div-eq_of_lt-le, lt-div-mul-add, lt_of_mul-lt-mul_left, mul-lt-mul_of_pos_left}
use borrow.Author.Tests.{eqb-false}
use borrow.Table.Steps.{cases}
use Rattle.block.specs.Limits.{peak_limit}
use Rattle.current.specs.Levels.{factor_of, level_in256ths, level_by}
use Rattle.current.specs.Pulse.{level_after}
use Rattle.current.specs.Rounding.{nearest}
use Rattle.current.proofs.Rounding.{even_is, rounded_down, rounded_up, rounded_even, by_rest}

-- A number times the factor is the number times 2³¹ divided by the steps, and less than 2²³ more: the factor is above 2³¹ / steps by 1 at
-- most.
module _ (x steps : ℕ) (small : x < 8388608) (one : 1 ≤ steps) where
  scaled_low : x * 2147483648 ≤ steps * (x * factor_of steps)
  unfolding factor_of
  scaled_low =
      let whole : 2147483648 < 2147483648 / steps * steps + steps = lt-div-mul-add one in
      let step : 2147483648 ≤ steps * factor_of steps = omega arith in
      omega (arith, mul-le-mul_left x step)

  scaled_high : steps * (x * factor_of steps) < x * 2147483648 + steps * 8388608
  unfolding factor_of
  scaled_high =
      let whole : 2147483648 / steps * steps ≤ 2147483648 = div-mul-le_self 2147483648 steps in
      let step : steps * factor_of steps ≤ 2147483648 + steps = omega arith in
      omega (arith, mul-le-mul_left x step, mul-lt-mul_of_pos_right small one)

  -- So the 256ths, times the steps, are less than the steps away from 256 times the number.

  fine_low : x * 256 < steps * (x * factor_of steps / 8388608 + 1)
  fine_low =
      let cut : x * factor_of steps < x * factor_of steps / 8388608 * 8388608 + 8388608 = lt-div-mul-add (omega arith) in
      omega (arith, scaled_low, mul-lt-mul_of_pos_left cut one)

  fine_high : steps * (x * factor_of steps / 8388608) < x * 256 + steps
  fine_high = omega (arith, scaled_high, mul-le-mul_left steps (div-mul-le_self (x * factor_of steps) 8388608))

-- From these bounds alone, how 256ths are rounded.
module _ (x steps fine : ℕ) (one : 1 ≤ steps) (few : steps < 128) (low : x * 256 < steps * (fine + 1)) (high : steps * fine < x * 256 + steps) where
  -- The 256ths with something added, divided by 256.
  whole_is : (m add : ℕ) {sum : ℕ} → sum ≡ fine + add → m * steps * 256 ≤ x * 256 + steps * add
      → x * 256 + steps * (1 + add) ≤ (m + 1) * steps * 256 → sum / 256 ≡ m
  whole_is m add {sum} is least most =
      let not_less : m * 256 < sum + 1 = lt_of_mul-lt-mul_left steps (omega (arith, ap (λ a. steps * a) is)) in
      let not_more : sum < (m + 1) * 256 = lt_of_mul-lt-mul_left steps (omega (arith, ap (λ a. steps * a) is)) in
      div-eq_of_lt-le 256 (omega arith) not_more

  -- With 127 added, and 128 where the whole number is odd, that is the rounded number.
  fine_rounds : (fine + 127 + fine / 256 % 2) / 256 ≡ nearest x steps
  fine_rounds =
      let q = x / steps in
      let whole = div-add-mod' x steps in
      let rest = mod-lt x one in
      let quotient : fine / 256 ≡ q = whole_is q 0 (omega arith) (omega arith) (omega arith) in
      let odd : fine / 256 % 2 ≡ q % 2 = ap (λ a. a % 2) quotient in
      let most : steps * (q % 2) ≤ steps * 1 = mul-le-mul_left steps (omega arith) in
      by_rest x steps
      (λ h. whole_is q (127 + q % 2) (omega arith) (omega arith) (omega arith) ∙ sym (rounded_down x steps h))
      (λ e. cases (eqb (q % 2) 0)
      (λ t. let zero = eqb-true (q % 2) 0 t in
      whole_is q 127 (omega arith) (omega arith) (omega arith) ∙ omega (arith, rounded_even x steps e, even_is q))
      (λ t. let some = eqb-false (q % 2) 0 t in
      whole_is (q + 1) 128 (omega arith) (omega arith) (omega arith) ∙ omega (arith, rounded_even x steps e, even_is q)))
      (λ h. whole_is (q + 1) (127 + q % 2) (omega arith) (omega arith) (omega arith) ∙ sym (rounded_up x steps h))

-- The products that the code makes fit.

pub level_fits : {P j : ℕ} → P < peak_limit → j < 128 → P * j ≤ 8322945
level_fits {P} {j} h l =
    let a : P * j ≤ 65535 * 127 = mul-le-mul (let z : P ≤ 65535 = omega arith in z) (let z : j ≤ 127 = omega arith in z) in
    omega arith

pub scaled_fits : {P j x factor : ℕ} → (P < peak_limit) × (j < 128) → x ≡ P * j → factor < 4294967296 → x * factor ≤ 8322945 * 4294967295
scaled_fits within e n = mul-le-mul {n₂ = 8322945} {m₂ = 4294967295} (omega (arith, level_fits within.0 within.1)) (omega arith)

-- The level by the factor of the steps.
pub level_by_lem : (P steps j : ℕ) → P < peak_limit → 1 ≤ steps → steps < 128 → j < 128 → level_by P (factor_of steps) j ≡ level_after P steps j
unfolding level_in256ths level_by level_after
level_by_lem P steps j h one few l =
    let small : P * j < 8388608 = omega (arith, level_fits h l) in
    fine_rounds (P * j) steps (P * j * factor_of steps / 8388608) one few (fine_low (P * j) steps small one) (fine_high (P * j) steps small one)
