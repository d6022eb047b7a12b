-- Buffers of which one range was written by a rule.
use Rattle.std.specs.Prelude.{ℕ, ◌+◌, ◌≤◌, ◌<◌, ◌≡◌, List, ◌⊎◌, length, get_or}

-- The n words from place `from` on are f 0, f 1 and so on; all others are as they were.
pub record Rewritten (f : ℕ → ℕ) (from n : ℕ) (given after : List ℕ) : Type 0 where
  pub long : length after ≡ length given
  pub done : (k : ℕ) → k < n → get_or after (from + k) 0 ≡ f k
  pub rest : (j : ℕ) → (j < from) ⊎ (from + n ≤ j) → get_or after j 0 ≡ get_or given j 0
