-- The levels of a pulse, as the code takes them.
use Rattle.std.specs.Prelude.{◌≡◌, ℕ, ◌+◌, ◌*◌, ◌/◌, ◌%◌, ◌<◌, ◌≤◌}
use Rattle.block.specs.Limits.{peak_limit}

-- The peak, rise and fall that a gate's record may have.
pub record InRange (P r f : ℕ) : Type 0 where
  pub peak_high : P < peak_limit
  pub rise_low : 1 ≤ r
  pub rise_high : r < 128
  pub fall_low : 1 ≤ f
  pub fall_high : f < 128

-- The factor of a number of steps: a number times the factor, divided by 2³¹, is nearly the number divided by the steps.
unfoldable pub factor_of : ℕ → ℕ
factor_of steps = 2147483648 / steps + 1

-- The level in 256ths that the code takes by a factor: P × j times the factor, divided by 2³¹ / 256.
unfoldable pub level_in256ths : ℕ → ℕ → ℕ → ℕ
level_in256ths P factor j = P * j * factor / 8388608

-- The level that the code takes by a factor. With fewer than 128 steps, the 256ths past the whole number are 128 at an exact half, fewer
-- below a half and more above it. So 127 are added where the whole number is even, and 128 where it is odd.
unfoldable pub level_by : ℕ → ℕ → ℕ → ℕ
level_by P factor j =
    let fine = level_in256ths P factor j in
    (fine + 127 + fine / 256 % 2) / 256

-- A pulse with the factors of its rise and its fall.
pub record Factored (P r f rising falling : ℕ) : Type 0 where
  pub range : InRange P r f
  pub rising_by : rising ≡ factor_of r
  pub falling_by : falling ≡ factor_of f
