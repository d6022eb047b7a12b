-- Pulses (document 01, "Levels and simulation"; request 4).
use Rattle.std.specs.Prelude.{ℕ, ◌+◌, ◌-◌, ◌*◌, cond, nat_le, nat_lt}
use Rattle.current.specs.Rounding.{nearest}

-- The level after j of the steps by which a peak P is reached: P × j / steps, rounded. A pulse is rounded here alone.
unfoldable pub level_after : ℕ → ℕ → ℕ → ℕ
level_after P steps j = nearest (P * j) steps

-- Document 01's pulse of peak P, rise r and fall f, k ticks after its start: P × k / r for k up to r, P × (r + f − k) / f up to r + f, each
-- rounded by itself, then 0.
unfoldable pub pulse : ℕ → ℕ → ℕ → ℕ → ℕ
pulse P r f k = cond (nat_le k r) (level_after P r k) (cond (nat_le k (r + f)) (level_after P f (r + f - k)) 0)

-- The pulse at tick t of a transition at tick x of a gate with delay D: it starts at tick x − D and is 0 before it.
unfoldable pub pulse_at : ℕ → ℕ → ℕ → ℕ → ℕ → ℕ → ℕ
pulse_at P r f D x t = cond (nat_lt (t + D) x) 0 (pulse P r f (t + D - x))
