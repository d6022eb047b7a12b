-- Values at the ticks 0 to 255 that settle.
use Rattle.std.specs.Prelude.{ℕ, ◌<◌, ◌≡◌}

-- The value is the same at all ticks after tick `last`.
pub record SettledAfter {A : Type 0} (last : ℕ) (at : ℕ → A) : Type 0 where
  pub same : (t : ℕ) → last < t → t < 256 → at t ≡ at 255
