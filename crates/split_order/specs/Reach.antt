-- What the code counts cones by: which inputs reach each net, as bits of a word.
use Rattle.std.specs.Prelude.{ℕ, zero, suc, ◌<◌, ◌≡◌, Bool, ◌&&◌, ◌||◌, List, eqb, leb, length, get_or}
use Rattle.std.specs.Int.Bits.{bit_or}
use Rattle.laws.specs.Below.{count_below}
use Rattle.laws.specs.Turn.{in_turn}
use Rattle.bits.specs.Bits.{bit_at}
use Rattle.block.specs.declared.Gate.{Gate}
use Rattle.block.specs.Block.{fed_from}
use Rattle.block.specs.Record.{File}
use Rattle.block.specs.View.{pin_of}

-- Whether a net is fed by a source, directly or through others.
abbrev pub is_fed : File → ℕ → ℕ → Bool
is_fed file source net = fed_from file source (in_turn (fed_from file source) net) net

-- A source reaches itself and what it feeds.
abbrev pub reaches : File → ℕ → ℕ → Bool
reaches file source net = eqb net source || is_fed file source net

-- The union of the first n of some words.
unfoldable pub union_below : ℕ → (ℕ → ℕ) → ℕ
union_below zero word = 0
union_below (suc n) word = bit_or (union_below n word) (word n)

-- The word of a gate, from the words of the nets below it: what reaches a pin reaches the gate.
unfoldable pub gate_word : Gate → List ℕ → ℕ
gate_word gate below = union_below gate.used (λ p. get_or below (pin_of gate p) 0)

-- The words of the first n nets: bit i is set where input i reaches the net.
pub record Reached (file : File) (inputs n : ℕ) (words : List ℕ) : Type 0 where
  pub long : length words ≡ 1024
  pub bit : (net input : ℕ) → net < n → input < inputs → bit_at (get_or words net 0) input ≡ reaches file input net

-- How many gates an input reaches, by the words of the nets: the gates come after the inputs.
unfoldable pub reached_gates : List ℕ → ℕ → ℕ → ℕ → ℕ
reached_gates words nets inputs input = count_below nets (λ net. leb inputs net && bit_at (get_or words net 0) input)
