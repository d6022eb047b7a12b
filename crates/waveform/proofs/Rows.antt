-- Laws of rows in the work buffer.
-- Assumes nothing.
use Prim.Native.Nat.{ℕ, ◌≤◌}
use mathlib.Core.List.{List}
use native.Mathlib.Omega.{arith}
use Rattle.laws.proofs.Below.{max_at_most}
use Rattle.block.specs.declared.Gate.{Gate}
use Rattle.waveform.specs.Rows.{latest_in, pins_last_in, HasPinRows, Ready}

module _ {net : ℕ} {gate : Gate} {work : List ℕ} (ready : Ready net gate work) where
  -- A buffer with room for the row of a gate has room for those of its pins.
  pub pin_rows : HasPinRows work gate
  pin_rows = record {
    some = ready.checked.pins_low;
    few = ready.checked.pins_high;
    row = λ p h. let below = ready.checked.pin_below p h in record { whole = omega (arith, ready.room.whole); numbered = omega (arith, ready.room.numbered) };
  }

  -- The pins settle no later than they arrive.
  pub pins_soon : pins_last_in gate work ≤ latest_in gate work
  unfolding pins_last_in latest_in
  pins_soon = max_at_most gate.used _ _ (λ p h. (ready.settled p h).soon)
