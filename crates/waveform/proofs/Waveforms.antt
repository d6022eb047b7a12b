-- Laws of waveforms and of what a gate makes of its pins.
-- Assumes nothing.
use Prim.Native.Nat.{ℕ}
use mathlib.Core.Bool.{true, false}
use mathlib.Core.List.{List}
use mathlib.Core.Path.{◌≡◌, refl}
use lib.ListN.{get_or}
use Rattle.block.specs.Block.{switching_tick}
use Rattle.block.specs.Record.{File, is_input}
use Rattle.block.specs.View.{gate_of}
use Rattle.waveform.specs.Waveform.{Waveform, Values, input_waveform, gate_waveform, net_waveform}

-- A waveform is what it has before tick 0 and at its ticks.
pub waveform_is : {A : Type 0} (v w : Waveform A) → v.before ≡ w.before → v.ticks ≡ w.ticks → v ≡ w
waveform_is v w b t = λ i. record { before = b i; ticks = t i }

-- The waveform of an input, and that of a gate.

pub net_input : (𝓥 : Values) (file : File) (inputs : List 𝓥.Value) (below : List (Waveform 𝓥.Value)) (net : ℕ) → is_input file net ≡ true
    → net_waveform 𝓥 file inputs below net ≡ input_waveform 𝓥 (switching_tick file net) (get_or inputs net 𝓥.none)
unfolding net_waveform
net_input 𝓥 file inputs below net e = rw (e, net_waveform) refl

pub net_gate : (𝓥 : Values) (file : File) (inputs : List 𝓥.Value) (below : List (Waveform 𝓥.Value)) (net : ℕ) → is_input file net ≡ false
    → net_waveform 𝓥 file inputs below net ≡ gate_waveform 𝓥 (gate_of file net) below
unfolding net_waveform
net_gate 𝓥 file inputs below net e = rw (e, net_waveform) refl
