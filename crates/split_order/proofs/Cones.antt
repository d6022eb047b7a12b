-- Laws of fan-out cones: which inputs reach each net, as code that goes from gate to gate keeps it in bits of words.
-- Assumes nothing.
use Prim.Native.Nat.{ℕ, zero, suc, ◌+◌, ◌/◌, ◌%◌, ◌^◌, ◌≤◌, ◌<◌}
use mathlib.Core.Path.{◌≡◌, refl, ap, sym, ◌∙◌}
use mathlib.Core.Bool.{Bool, false, ◌&&◌, ◌||◌, or-false}
use mathlib.Core.List.{List}
use mathlib.Core.Logic.{⊎_elim}
use native.Mathlib.Nat.{eq-or-lt_of_le}
use native.Mathlib.Numerals.{add-one}
use native.Mathlib.Omega.{arith}
use lib.Bits.{bit_or}
use lib.Dec.{eqb, leb}
use lib.ListN.{length, get_or, set, length-set}
use lib.Seq.{get_or-set_same, get_or-set_other}
use borrow.Author.Tests.{ne_eqb, le-leb, lt-leb, leb-true, leb-false}
use borrow.Table.Steps.{cases}
use Rattle.laws.specs.Below.{any_below, indicator}
use Rattle.laws.specs.Rewritten.{Rewritten}
use Rattle.laws.specs.Turn.{in_turn}
use Rattle.laws.proofs.Below.{any_same, indicator_of, count_next, count_none, count_same, count_at_most}
use Rattle.laws.proofs.Rewritten.{rewritten_first}
use Rattle.laws.proofs.Turn.{turn_at}
use Rattle.bits.specs.Bits.{bit_at}
use Rattle.bits.proofs.Bits.{own_bit, bit_zero, bit_or_lem}
use Rattle.block.specs.declared.Gate.{Gate}
use Rattle.block.specs.Record.{File, pin_count}
use Rattle.block.specs.View.{gate_of, pin_of}
use Rattle.block.specs.Block.{feeds, fed_from, cone_size}
use Rattle.block.specs.Accepted.{GateRecord, AcceptedFile}
use Rattle.split_order.specs.Reach.{is_fed, reaches, union_below, gate_word, Reached, reached_gates}

-- The bits of a union are those of its words.
union_bit : (n i : ℕ) (word : ℕ → ℕ) → bit_at (union_below n word) i ≡ any_below n (λ k. bit_at (word k) i)
unfolding union_below any_below
union_bit zero i word = bit_zero i
union_bit (suc n) i word = bit_or_lem (union_below n word) (word n) i ∙ ap (λ b. b || bit_at (word n) i) (union_bit n i word)

-- One pin more, as a loop goes.
pub union_next : (n union : ℕ) (word : ℕ → ℕ) → union ≡ union_below n word → bit_or union (word n) ≡ union_below (n + 1) word
unfolding union_below
union_next n union word e = rw (add-one, e) refl

-- The bit of one word, counted.
bit_counted : (word i : ℕ) → word / 2 ^ i % 2 ≡ indicator (bit_at word i)
unfolding bit_at
bit_counted word i = sym (indicator_of (word / 2 ^ i % 2) (omega arith))

-- The gates that an input reaches, counted net by net.

module _ (words : List ℕ) (inputs input : ℕ) where
  pub reached_none : 0 ≡ reached_gates words inputs inputs input
  unfolding reached_gates
  reached_none = sym (count_none inputs _ (λ net h. ap (λ b. b && bit_at (get_or words net 0) input) (lt-leb inputs net h)))

  pub reached_more : (net count : ℕ) → inputs ≤ net → count ≡ reached_gates words net inputs input
      → count + get_or words net 0 / 2 ^ input % 2 ≡ reached_gates words (net + 1) inputs input
  unfolding reached_gates
  reached_more net count low e =
      rw (count_next, le-leb inputs net low, bit_counted) (ap (λ n. n + indicator (bit_at (get_or words net 0) input)) e)

  pub reached_few : (net count : ℕ) → count ≡ reached_gates words net inputs input → count ≤ net
  unfolding reached_gates
  reached_few net count e = omega (arith, count_at_most net (λ net. leb inputs net && bit_at (get_or words net 0) input))

-- What has no pins is not fed.
unfed : (file : File) (source net : ℕ) (below : List Bool) → pin_count file net ≡ 0 → fed_from file source below net ≡ false
unfolding fed_from feeds gate_of any_below
unfed file source net below e =
    ap (λ n. any_below n (λ p. eqb (pin_of (gate_of file net) p) source || get_or below (pin_of (gate_of file net) p) false)) e

module _ (file : File) (nets inputs : ℕ) (accepted : AcceptedFile file nets inputs) where
  -- No input is fed.
  unfed_input : (input net : ℕ) → net < inputs → is_fed file input net ≡ false
  unfed_input input net h = unfed file input net _ (accepted.input net h).no_pins

  -- Of the inputs, each is reached by itself alone.
  pub reached_first : (given words : List ℕ) → length given ≡ 1024 → Rewritten (λ input. 2 ^ input) 0 inputs given words
      → Reached file inputs inputs words
  reached_first given words long w = record {
    long = w.long ∙ long;
    bit = λ net input h l.
        ap (λ word. bit_at word input) (rewritten_first _ inputs given words w net h) ∙ own_bit net input
        ∙ sym (ap (λ b. eqb net input || b) (unfed_input input net h) ∙ or-false _);
  }

  module _ (net : ℕ) (words : List ℕ) (kept : Reached file inputs net words) where
    -- The word of a gate.
    gate_bit : (gate : Gate) (input : ℕ) → gate ≡ gate_of file net → GateRecord net gate → inputs ≤ net → input < inputs
        → bit_at (gate_word gate words) input ≡ reaches file input net
    unfolding gate_word fed_from feeds
    gate_bit gate input is g low h =
        union_bit gate.used input _
        ∙ any_same gate.used _ _
        (λ p l. let below = g.pin_below p l in
        kept.bit (pin_of gate p) input below h ∙ ap (λ b. eqb (pin_of gate p) input || b) (sym (turn_at (fed_from file input) net _ false below)))
        ∙ ap (feeds input (in_turn (fed_from file input) net)) is
        ∙ sym (ap (λ b. b || is_fed file input net) (ne_eqb net input (λ e. omega arith)))

    -- One gate more.
    pub reached_next : (gate : Gate) (word : ℕ) → gate ≡ gate_of file net → GateRecord net gate → inputs ≤ net → net < nets
        → word ≡ gate_word gate words → Reached file inputs (net + 1) (set words net word)
    reached_next gate word is g low high e =
        let few = accepted.few_nets in
        let long = kept.long in
        record {
          long = length-set words net word ∙ kept.long;
          bit = λ k input h l. ⊎_elim
              (λ (q : k ≡ net). rw q (ap (λ w. bit_at w input) (get_or-set_same words net word 0 (omega arith) ∙ e) ∙ gate_bit gate input is g low l))
              (λ m. ap (λ w. bit_at w input) (get_or-set_other words net k word 0 (λ z. omega arith)) ∙ kept.bit k input m l)
              (eq-or-lt_of_le (omega arith));
        }

  -- Once all words are written: the gates that an input reaches are its cone.
  pub reached_all : (words : List ℕ) (input : ℕ) → Reached file inputs nets words → input < inputs
      → reached_gates words nets inputs input ≡ cone_size file input
  unfolding reached_gates cone_size
  reached_all words input kept h =
      let n = accepted.net_count_lem in
      rw n (count_same nets _ _ (λ net l. here net l ∙ sym (turn_at (fed_from file input) nets net false l)))
    where
      here : (net : ℕ) → net < nets → (leb inputs net && bit_at (get_or words net 0) input) ≡ is_fed file input net
      here net l =
          cases (leb inputs net)
          (λ t. let low = leb-true inputs net t in
          rw t (kept.bit net input l h ∙ rw (ne_eqb net input (λ e. omega arith)) refl))
          (λ t. rw t (sym (unfed_input input net (leb-false inputs net t))))
