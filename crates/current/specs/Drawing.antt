-- What the code's drawing of one gate does to the words of a sheet in the making, which are changes.
use Rattle.std.specs.Prelude.{◌≡◌, ℕ, ◌+◌, ◌<◌, ◌≤◌, false, cond, List, length, ◌==◌}
use Rattle.excitation.specs.Excitation.{hl, lh}
use Rattle.excitation.specs.UncertaintySet.{member}
use Rattle.block.specs.Accepted.{InRanges}
use Rattle.block.specs.Limits.{gate_limit, word_limit}
use Rattle.block.specs.View.{FieldsFit}
use Rattle.block.specs.declared.Gate.{Gate}
use Rattle.sheet.specs.Changes.{restored_in}
use Rattle.rows.specs.Rows.{HasRow, set_in}
use Rattle.waveform.specs.Rows.{waveform_in}
use Rattle.current.specs.Current.{Transition, transitions_from, gate_current}

-- The transitions that the waveform of a net allows, as the work buffer has it.
unfoldable pub transitions_in : List ℕ → ℕ → List Transition
transitions_in work net = transitions_from (member lh) (member hl) 0 (waveform_in work net).ticks

-- A gate that can be drawn: its fields, the row of its net, which allows no transition before the gate's delay, and words whose currents
-- have room for one gate more.
pub record Drawable (gate : Gate) (work : List ℕ) (net : ℕ) (words : List ℕ) : Type 0 where
  pub ranges : InRanges gate.contact gate.delay gate.rise gate.fall
  pub fits : FieldsFit gate
  pub row : HasRow work net
  pub no_rise_before : (t : ℕ) → t < gate.delay → member lh (set_in work net t) ≡ false
  pub no_fall_before : (t : ℕ) → t < gate.delay → member hl (set_in work net t) ≡ false
  pub long : length words ≡ 8192
  pub room : (c t : ℕ) → c < 16 → t < 512 → restored_in words c t + gate_limit < word_limit

-- The words once the gate is drawn: its current is added at its contact.
pub record Drawn (gate : Gate) (transitions : List Transition) (words after : List ℕ) : Type 0 where
  pub long : length after ≡ 8192
  pub at : (c t : ℕ) → c < 16 → t < 512
      → restored_in after c t ≡ restored_in words c t + cond (gate.contact == c) (gate_current gate transitions t) 0
  pub most : (t : ℕ) → gate_current gate transitions t ≤ gate_limit
