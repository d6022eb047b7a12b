-- What checks 4 to 9 leave true of a record.
-- Assumes nothing.
use Rattle.block.specs.declared.verdict.Reason.TheVariants.{UnknownKind, MisplacedInput, WrongPinCount, StrayByte, PinNotBelow, OutOfRange}
use Rattle.block.specs.Verdict.{Accepted}
use Prim.Native.Nat.{ℕ, ◌+◌, ◌≤◌}
use mathlib.Core.Path.{◌≡◌, ap, refl, sym, ◌∙◌}
use mathlib.Core.Bool.{Bool, true, false, ◌&&◌}
use native.Mathlib.Omega.{arith}
use lib.Dec.{eqb, leb, ltb}
use borrow.Table.Steps.{cases}
use borrow.Author.Tests.{leb-true, ltb-true, eqb-true, eqb-false, eq-eqb, ne_eqb}
use Rattle.laws.specs.Below.{all_below}
use Rattle.laws.proofs.Tests.{and_left, and_right}
use Rattle.laws.proofs.Below.{all_at, all_of_count, not_all_of_count}
use Rattle.block.specs.Record.{File, byte_at, kind, allowed, contact, delay, pin_count, pin, rise, fall, is_input}
use Rattle.block.specs.Kind.{Kind, NONE, INPUT, AND, NAND, OR, NOR, XOR, XNOR, NOT, BUF, kind_of, rule_of}
use Rattle.block.specs.Block.{inputs_below}
use Rattle.block.specs.Verdict.{verdict}
use Rattle.block.specs.Refusals.{within, kind_known, input_in_place, pin_count_right, zero_bytes, input_spare_zero, pins_below, gate_in_range, input_in_range, input_checks, gate_checks, field_checks}
use Rattle.block.specs.Accepted.{InputRecord, InRanges, GateRecord}
use Rattle.block.specs.View.{gate_of}
use Rattle.block.proofs.Verdicts.{listed, listing}
use Rattle.block.proofs.Views.{pin_of_lem}

pub within_low : (low high x : ℕ) → within low high x ≡ true → low ≤ x
unfolding within
within_low low high x t = leb-true low x (and_left (leb low x) (leb x high) t)

pub within_high : (low high x : ℕ) → within low high x ≡ true → x ≤ high
unfolding within
within_high low high x t = leb-true x high (and_right (leb low x) (leb x high) t)

-- Check 5, by how many inputs stand below a net.
pub place_by_count : (file : File) (net inputs : ℕ) → inputs ≡ inputs_below file net → (eqb inputs net && ltb inputs 64) ≡ input_in_place file net
unfolding input_in_place inputs_below
place_by_count file net inputs counted =
    let all : eqb inputs net ≡ all_below net (is_input file) =
    cases (eqb inputs net)
    (λ e. e ∙ sym (all_of_count net (is_input file) (sym counted ∙ eqb-true _ _ e)))
    (λ e. e ∙ sym (not_all_of_count net (is_input file) (λ n. eqb-false _ _ e (counted ∙ n)))) in
    rw (all, counted) refl

-- Whatever the kind, a pin count that fits it is 1 to 4.
pub rule_bounds : (k : Kind) → (1 ≤ (rule_of k).least) × ((rule_of k).most ≤ 4)
rule_bounds NONE = omega arith
rule_bounds INPUT = omega arith
rule_bounds AND = omega arith
rule_bounds NAND = omega arith
rule_bounds OR = omega arith
rule_bounds NOR = omega arith
rule_bounds XOR = omega arith
rule_bounds XNOR = omega arith
rule_bounds NOT = omega arith
rule_bounds BUF = omega arith

pins_low : (file : File) (net : ℕ) → pin_count_right file net ≡ true → 1 ≤ pin_count file net
unfolding pin_count_right
pins_low file net t =
    let bounds = rule_bounds (kind_of (kind file net)) in
    let low = within_low _ _ _ t in
    omega arith

pub pins_high : (file : File) (net : ℕ) → pin_count_right file net ≡ true → pin_count file net ≤ 4
unfolding pin_count_right
pins_high file net t =
    let bounds = rule_bounds (kind_of (kind file net)) in
    let high = within_high _ _ _ t in
    omega arith

-- The same test of the same number.
pub within_same : (low high : ℕ) {x y : ℕ} {s : Bool} → s ≡ within low high x → x ≡ y → s ≡ within low high y
within_same low high e same = e ∙ ap (within low high) same

-- Kind 1 is an input, and any other kind a gate.
pub is_input_lem : (file : File) (net : ℕ) → kind file net ≡ 1 → is_input file net ≡ true
unfolding is_input
is_input_lem file net e = eq-eqb _ _ e

pub is_gate_lem : (file : File) (net : ℕ) → (kind file net ≡ 1 → ⊥) → is_input file net ≡ false
unfolding is_input
is_gate_lem file net h = ne_eqb _ _ h

gate_kind : (file : File) (net : ℕ) → is_input file net ≡ false → kind file net ≡ 1 → ⊥
unfolding is_input
gate_kind file net e = eqb-false _ _ e

-- Checks 4 to 9 passed on a gate, and on an input.
pub gate_ranges : {contact delay rise fall : ℕ} → gate_in_range contact delay rise fall ≡ true → InRanges contact delay rise fall
unfolding gate_in_range
gate_ranges {contact} {delay} {rise} t =
    let contact_passes = and_left _ _ t in
    let second = and_right (within 0 15 contact) _ t in
    let delay_passes = and_left _ _ second in
    let third = and_right (within 1 63 delay) _ second in
    let rise_passes = and_left _ _ third in
    let fall_passes = and_right (within 1 127 rise) _ third in
    record {
      contact_high = within_high _ _ _ contact_passes;
      delay_low = within_low _ _ _ delay_passes;
      delay_high = within_high _ _ _ delay_passes;
      rise_low = within_low _ _ _ rise_passes;
      rise_high = within_high _ _ _ rise_passes;
      fall_low = within_low _ _ _ fall_passes;
      fall_high = within_high _ _ _ fall_passes;
    }

pub gate_record_lem : (file : File) (net : ℕ) → verdict (field_checks file net) ≡ Accepted → is_input file net ≡ false → GateRecord net (gate_of file net)
unfolding field_checks kind_known gate_checks pins_below gate_of
gate_record_lem file net e g =
    let here = rw g at e in
    let known : within 1 9 (kind file net) ≡ true = listed _ here UnknownKind net _ (search listing) in
    let counted : pin_count_right file net ≡ true = listed _ here WrongPinCount net _ (search listing) in
    let below = listed _ here PinNotBelow net (pins_below file net) (search listing) in
    let ranges : InRanges (contact file net) (delay file net) (rise file net) (fall file net) = gate_ranges (listed _ here OutOfRange net _ (search listing)) in
    let low = within_low _ _ _ known in
    let not_one = gate_kind file net g in
    record {
      kind_low = omega arith;
      kind_high = within_high _ _ _ known;
      pins_low = pins_low file net counted;
      pins_high = pins_high file net counted;
      pin_below = λ p h. rw (pin_of_lem file net p (let few = pins_high file net counted in omega arith)) (ltb-true _ _ (all_at _ (λ q. ltb (pin file net q) net) p below h));
      ranges = ranges;
    }

-- Byte 3 of an input is one of those that have to be 0.
spare_pins : (file : File) (net : ℕ) → input_spare_zero file net ≡ true → pin_count file net ≡ 0
unfolding input_spare_zero zero_bytes
spare_pins file net e = eqb-true _ _ (all_at 17 (λ i. eqb (byte_at file net (1 + i)) 0) 2 (and_left _ _ e) (omega arith))

pub input_record_lem : (file : File) (net : ℕ) → verdict (field_checks file net) ≡ Accepted → is_input file net ≡ true
    → InputRecord file net × (input_in_place file net ≡ true)
unfolding field_checks input_checks input_in_range
input_record_lem file net e g =
    let here = rw g at e in
    let range : within 1 15 (allowed file net) ≡ true = listed _ here OutOfRange net _ (search listing) in
    let place : input_in_place file net ≡ true = listed _ here MisplacedInput net _ (search listing) in
    let spare : input_spare_zero file net ≡ true = listed _ here StrayByte net _ (search listing) in
    (record { input = g; no_pins = spare_pins file net spare; allowed_low = within_low _ _ _ range; allowed_high = within_high _ _ _ range }, place)
