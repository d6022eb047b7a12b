-- What the code makes of a gate's pins.
use Rattle.std.specs.Prelude.{ℕ, ◌+◌, ◌-◌, ◌*◌, ◌≤◌, ◌<◌, cond, ◌≡◌, ltb}
use mathlib.Core.List.{List, foldl}
use Rattle.laws.specs.Settled.{SettledAfter}
use Rattle.laws.specs.Turn.{list_below}
use Rattle.excitation.specs.Excitation.{TwoLevel, levels_of}
use Rattle.excitation.specs.UncertaintySet.{UncertaintySet, join_sets}
use Rattle.block.specs.Kind.{kind_of, rule_of}
use Rattle.block.specs.View.{pin_of}
use Rattle.block.specs.declared.Gate.{Gate}
use Rattle.parts.specs.Parts.{set_at, number_of}
use Rattle.parts.specs.declared.Part.{Part}
use Rattle.rows.specs.Rows.{HasRow, set_in}
use Rattle.waveform.specs.declared.joining.Function.{Function}
use Rattle.waveform.specs.Rows.{before_in, HasPinRows}
use Rattle.waveform.specs.Waveform.{envelope, gate_from}

-- The sets of the first n pins, at least one, joined left to right.
unfoldable pub joined_below : TwoLevel → ℕ → (ℕ → UncertaintySet) → UncertaintySet
joined_below f n on_pin = foldl (join_sets f) (on_pin 0) (list_below (n - 1) (λ p. on_pin (p + 1)))

-- What a gate makes of its pins' sets before tick 0, and at tick t. The hop limit says nothing here.
unfoldable pub made_before : Gate → List ℕ → UncertaintySet
made_before gate work = gate_from (envelope 1) gate (λ p. before_in work (pin_of gate p))

unfoldable pub made_at : Gate → List ℕ → ℕ → UncertaintySet
made_at gate work t = gate_from (envelope 1) gate (λ p. set_in work (pin_of gate p) t)

-- The function of a gate as the code has it: the number of its kind's join, and whether its kind turns the result over.
pub record FunctionOf (gate : Gate) (function : Function) : Type 0 where
  pub number : function.number ≡ number_of (levels_of (rule_of (kind_of gate.kind)).join)
  pub small : function.number < 16
  pub inverts : function.inverts ≡ (rule_of (kind_of gate.kind)).inverts

-- 64 sets as a rule has them from tick `from` on.
pub record PartIs (rule : ℕ → UncertaintySet) (from : ℕ) (part : Part) : Type 0 where
  pub at : (k : ℕ) → k < 64 → set_at part k ≡ rule (from + k)

-- A gate's raw set at tick t: what it makes of its pins d ticks earlier, and before tick d what it has before tick 0.
abbrev pub raw_at : Gate → List ℕ → ℕ → UncertaintySet
raw_at gate work t = cond (ltb t gate.delay) (made_before gate work) (made_at gate work (t - gate.delay))

-- A row whose parts from `parts` on hold the last of 64 sets, later by d ticks, and whose other parts are as given.
unfoldable pub held_from : Part → ℕ → ℕ → (ℕ → UncertaintySet) → ℕ → UncertaintySet
held_from earlier d parts given t =
    cond (ltb t (64 * parts)) (given t) (cond (ltb t (64 * parts + d)) (set_at earlier (t + 64 - (64 * parts + d))) (set_at earlier 63))

-- Room for the row of a gate, a delay that a word can be shifted by, and pins that are the same from the last tick of the first `parts`
-- parts of their rows on.
pub record RowReady (net : ℕ) (gate : Gate) (parts : ℕ) (work : List ℕ) : Type 0 where
  pub pins : HasPinRows work gate
  pub room : HasRow work net
  pub delay_low : 1 ≤ gate.delay
  pub delay_high : gate.delay < 64
  pub some : 1 ≤ parts
  pub few : parts ≤ 4
  pub settled : SettledAfter (64 * parts - 2) (made_at gate work)
