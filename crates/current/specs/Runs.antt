-- The pulses of a run of ticks, as the code adds them to the changes of a sheet in the making.
use Rattle.std.specs.Prelude.{◌≡◌, ℕ, ◌+◌, ◌<◌, ◌≤◌, Bool, true, false, List, ◌⊎◌, length, slice_index}
use Rattle.laws.specs.Below.{sum_between}
use Rattle.laws.specs.Rewritten.{Rewritten}
use Rattle.sheet.specs.Changes.{Added}
use Rattle.current.specs.Pulse.{pulse, pulse_at}

-- Words of which the n from a place on are written one by one. `may` says what may be written as the kth of them.
pub record Written (may : ℕ → ℕ → Type 0) (from n : ℕ) (given after : List ℕ) : Type 0 where
  pub long : length after ≡ length given
  pub done : (k : ℕ) → k < n → may k (slice_index after (from + k))
  pub rest : (j : ℕ) → (j < from) ⊎ (from + n ≤ j) → slice_index after j ≡ slice_index given j

-- Shapes once that of a pulse is made, where it is needed.
pub record ShapeMade (needed : Bool) (P r f place : ℕ) (shapes after : List ℕ) : Type 0 where
  pub long : length after ≡ length shapes
  pub made : needed ≡ true → Rewritten (pulse P r f) place (r + f) shapes after
  pub kept : needed ≡ false → after ≡ shapes

-- The shape of a pulse among the shapes: its level after each number of ticks.
pub record Shaped (P r f place : ℕ) (shapes : List ℕ) : Type 0 where
  pub long : length shapes ≡ 528
  pub low : place ≤ 264
  pub at : (k : ℕ) → k < 264 → slice_index shapes (place + k) ≡ pulse P r f k

-- Words from a place on, n of which are changed one by one, each by the level of the shapes that belongs to it and the level that follows.
-- `may` says what such a change may make of a word.
abbrev pub Changed : (ℕ → ℕ → ℕ → ℕ → Type 0) → List ℕ → ℕ → ℕ → ℕ → List ℕ → List ℕ → Type 0
Changed may shapes place at n words =
    Written (λ k. may (slice_index words (at + k)) (slice_index shapes (place + k)) (slice_index shapes (place + k + 1))) at n words

-- Words of changes once the pulses of a run are added: those that start at ticks `first` to before `end`.
abbrev pub RunDrawn : ℕ → ℕ → ℕ → ℕ → ℕ → ℕ → List ℕ → List ℕ → Type 0
RunDrawn P r f contact first end = Added contact (λ t. sum_between first end (λ x. pulse_at P r f 0 x t))
