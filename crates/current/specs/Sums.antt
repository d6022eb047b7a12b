-- What request 5, "Overlapping pulses add", says of a gate's current. The definition goes by transitions; here are the request's words.
use Rattle.std.specs.Prelude.{◌≡◌, ℕ, suc, ◌+◌, max, cond, List, [], ◌∷◌, length, slice_index_or}
use Rattle.laws.specs.Below.{sum_below}
use Rattle.excitation.specs.Excitation.{hl, lh, same}
use Rattle.excitation.specs.UncertaintySet.{UncertaintySet, member, empty}
use Rattle.excitation.specs.declared.Excitation.{Excitation}
use Rattle.block.specs.declared.Gate.{Gate}
use Rattle.waveform.specs.Waveform.{Waveform, simulation, envelope}
use Rattle.current.specs.Current.{gate_current, transitions_of}
use Rattle.current.specs.Pulse.{pulse_at}

-- The pulses of a simulated gate, as they are at tick t: one for each tick at which it is lh or hl. The first of its excitations is that of
-- tick x.
unfoldable pub simulated_pulses : Gate → ℕ → List Excitation → ℕ → List ℕ
simulated_pulses gate x [] t = []
simulated_pulses gate x (e ∷ later) t =
    let rest = simulated_pulses gate (suc x) later t in
    cond (same lh e)
    (pulse_at gate.peaks.lh gate.rise gate.fall gate.delay x t ∷ rest)
    (cond (same hl e) (pulse_at gate.peaks.hl gate.rise gate.fall gate.delay x t ∷ rest) rest)

unfoldable pub sum_of : List ℕ → ℕ
sum_of [] = 0
sum_of (x ∷ rest) = x + sum_of rest

-- The greater pulse at tick t that the set at tick x allows.
unfoldable pub greater_pulse : Gate → UncertaintySet → ℕ → ℕ → ℕ
greater_pulse gate set x t =
    max
    (cond (member lh set) (pulse_at gate.peaks.lh gate.rise gate.fall gate.delay x t) 0)
    (cond (member hl set) (pulse_at gate.peaks.hl gate.rise gate.fall gate.delay x t) 0)

pub record SumsOfPulses (gate : Gate) : Type 0 where
  -- A simulated gate's current is the sum of its pulses.
  pub simulated : (w : Waveform Excitation) (t : ℕ) → gate_current gate (transitions_of simulation w) t ≡ sum_of (simulated_pulses gate 0 w.ticks t)
  -- Its envelope is the sum, over ticks 0 to 255, of the greater pulse that the set at that tick allows.
  pub enveloped : (hops : ℕ) (w : Waveform UncertaintySet) → length w.ticks ≡ 256 → (t : ℕ)
      → gate_current gate (transitions_of (envelope hops) w) t ≡ sum_below 256 (λ x. greater_pulse gate (slice_index_or w.ticks x empty) x t)
