-- What is made of a block's records: arrivals and the frame (document 01, "The block file"), the fan-out cone of an input ("Search")
-- and the settling tick (the quiet tick of "Envelope", in whose place request 3 puts one by the sheet).
use Rattle.std.specs.Prelude.{ℕ, ◌+◌, ◌-◌, ◌*◌, Bool, false, cond, ◌||◌, eqb, get_or}
use mathlib.Core.List.{List, [], ◌∷◌, Forall₂}
use Rattle.laws.specs.Below.{any_below, max_below, count_below}
use Rattle.laws.specs.Turn.{in_turn, list_below}
use Rattle.excitation.specs.declared.Excitation.{Excitation}
use Rattle.excitation.specs.UncertaintySet.{UncertaintySet, ◌∈◌, decode, size}
use Rattle.block.specs.declared.Gate.{Gate}
use Rattle.block.specs.Record.{File, net_count, is_input, allowed}
use Rattle.block.specs.View.{gate_of, pin_of}

-- The tick at which an input switches: at tick 0 it has its excitation.
unfoldable pub switching_tick : File → ℕ → ℕ
switching_tick file net = 0

-- The greatest arrival of a gate's pins, from the arrivals of the nets below it.
unfoldable pub latest_pin : Gate → List ℕ → ℕ
latest_pin gate below = max_below gate.used (λ p. get_or below (pin_of gate p) 0)

-- Document 01's arrival of a net, from the arrivals of the nets below it: 0 for an input; for a gate the greatest arrival of its
-- pins plus D.
unfoldable pub arrival_from : File → List ℕ → ℕ → ℕ
arrival_from file below net =
    let gate = gate_of file net in
    cond (is_input file net) (switching_tick file net) (latest_pin gate below + gate.delay)

-- The arrivals of the first n nets, and the arrival of a net.
unfoldable pub arrivals : File → ℕ → List ℕ
arrivals file = in_turn (arrival_from file)

abbrev pub arrival : File → ℕ → ℕ
arrival file net = arrival_from file (arrivals file net) net

-- How many of the first n nets are inputs.
unfoldable pub inputs_below : File → ℕ → ℕ
inputs_below file n = count_below n (is_input file)

abbrev pub input_count : File → ℕ
input_count file = inputs_below file (net_count file)

-- Document 01's frame, every choice of one allowed excitation per input: given by the set of each input. A pattern is a choice of it
-- where each input has a member of its set.
unfoldable pub frame : File → List UncertaintySet
frame file = list_below (input_count file) (λ net. decode (allowed file net))

abbrev pub Choice : List Excitation → List UncertaintySet → Type 0
Choice pattern sets = Forall₂ ◌∈◌ pattern sets

-- How many choices these sets leave: the product of the sets' sizes. Document 01's N is that of the frame.
unfoldable pub choice_count : List UncertaintySet → ℕ
choice_count [] = 1
choice_count (s ∷ rest) = size s * choice_count rest

abbrev pub pattern_count : File → ℕ
pattern_count file = choice_count (frame file)

-- Whether a net feeds a gate, directly or through others, given which nets below the gate it feeds.
unfoldable pub feeds : ℕ → List Bool → Gate → Bool
feeds source below gate = any_below gate.used (λ p. eqb (pin_of gate p) source || get_or below (pin_of gate p) false)

unfoldable pub fed_from : File → ℕ → List Bool → ℕ → Bool
fed_from file source below net = feeds source below (gate_of file net)

-- How many gates stand in document 01's fan-out cone of a net: gates it feeds, directly or through others, each counted once.
unfoldable pub cone_size : File → ℕ → ℕ
cone_size file source =
    let fed = in_turn (fed_from file source) (net_count file) in
    count_below (net_count file) (λ gate. get_or fed gate false)

-- The tick at which the last pulse of a gate ends, by its arrival: arrival − D + r + f.
unfoldable pub last_pulse_end : Gate → ℕ → ℕ
last_pulse_end gate arrival = arrival - gate.delay + gate.rise + gate.fall

-- The settling tick of a block, after which no pulse is left: the greatest arrival − D + r + f of a gate, 0 without gates.
unfoldable pub settling_tick : File → ℕ
settling_tick file =
    let times = arrivals file (net_count file) in
    max_below (net_count file) (λ net. cond (is_input file net) 0 (last_pulse_end (gate_of file net) (get_or times net 0)))
