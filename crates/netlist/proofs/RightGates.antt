-- Laws of gates that are right: the kind that a word names, how many pins a kind may have, and the names on the line.
-- Assumes nothing.
use Prim.Native.Nat.{ℕ, zero, suc, ◌≤◌}
use mathlib.Core.Bool.{true}
use mathlib.Core.List.{List, [], ◌∷◌}
use mathlib.Core.Path.{◌≡◌, sym, ◌∙◌}
use native.Mathlib.Omega.{arith}
use lib.Dec.{leb}
use lib.ListN.{length, get_or-map}
use borrow.Author.Tests.{leb-true}
use Rattle.laws.proofs.Tests.{and_left, and_right}
use Rattle.laws.proofs.Lists.{replicate_at}
use Rattle.block.specs.Kind.{kind_of, rule_of}
use Rattle.block.proofs.Fields.{within_low, within_high, rule_bounds}
use Rattle.netlist.specs.Names.{Letters, is_name, are_names, position}
use Rattle.netlist.specs.Forms.{gate, kind_words, kind_named, pins_allowed, form_right}

pub kind_high : (word : Letters) → kind_named word ≤ 9
unfolding kind_named
kind_high word =
    let place = position word kind_words in
    leb-true _ 9
    (sym (get_or-map (λ kind. leb kind 9) (2 ∷ 3 ∷ 4 ∷ 5 ∷ 6 ∷ 7 ∷ 8 ∷ 9 ∷ 9 ∷ []) place 0) ∙ replicate_at 9 place true)

-- A pin count fits only a gate's kind, and is 1 to 4.

pub kind_low : (kind pins : ℕ) → pins_allowed kind pins ≡ true → 2 ≤ kind
unfolding pins_allowed kind_of
kind_low zero pins e = absurd (omega (arith, within_low 1 0 pins e, within_high 1 0 pins e))
kind_low (suc zero) pins e = absurd (omega (arith, within_low 1 0 pins e, within_high 1 0 pins e))
kind_low (suc (suc kind)) pins e = omega arith

pub pins_some : (kind pins : ℕ) → pins_allowed kind pins ≡ true → 1 ≤ pins
unfolding pins_allowed
pins_some kind pins e =
    let rule = rule_of (kind_of kind) in
    omega (arith, (rule_bounds (kind_of kind)).0, within_low rule.least rule.most pins e)

pub pins_few : (kind pins : ℕ) → pins_allowed kind pins ≡ true → pins ≤ 4
unfolding pins_allowed
pins_few kind pins e =
    let rule = rule_of (kind_of kind) in
    omega (arith, (rule_bounds (kind_of kind)).1, within_high rule.least rule.most pins e)

-- What is right of a right gate.
module _ (name word : Letters) (pins : List Letters) (right : form_right (gate name word pins) ≡ true) where
  pub gate_named : is_name name ≡ true
  unfolding form_right
  gate_named = and_left (is_name name) _ right

  pub gate_pins : are_names pins ≡ true
  unfolding form_right
  gate_pins = and_left (are_names pins) _ (and_right (is_name name) _ right)

  pub gate_counted : pins_allowed (kind_named word) (length pins) ≡ true
  unfolding form_right
  gate_counted = and_right (are_names pins) _ (and_right (is_name name) _ right)

  pub gate_kind : 2 ≤ kind_named word
  gate_kind = kind_low (kind_named word) (length pins) gate_counted

  pub gate_few : length pins ≤ 4
  gate_few = pins_few (kind_named word) (length pins) gate_counted
