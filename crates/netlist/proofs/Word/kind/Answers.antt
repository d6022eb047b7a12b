-- `netlist::Word::kind` meets its contract.
-- Assumes nothing.
use Prim.Native.Nat.{ℕ}
use mathlib.Core.Bool.{Bool, true, false, ◌&&◌}
use mathlib.Core.Logic.{⊎_elim}
use mathlib.Core.Path.{◌≡◌, refl, ap, sym, ◌∙◌}
use lib.Dec.{eqb}
use lib.ListN.{length}
use native.Mathlib.Omega.{arith}
use borrow.Author.Tests.{eq-eqb, ne_eqb}
use Rattle.laws.specs.Ascii.{ascii}
use Rattle.laws.proofs.Tests.{and_left, and_right}
use Rattle.block.specs.Refusals.{within}
use Rattle.block.proofs.Fields.{within_low, within_high}
use Rattle.netlist.specs.Names.{Letters, is_letter_or_digit, lettered, same, position}
use Rattle.netlist.specs.Forms.{kind_named}
use Rattle.netlist.specs.Kept.{backwards, number_of, short_number, kind_kept}
use Rattle.netlist.proofs.Packing.{same_is, short_same}
use Rattle.netlist.proofs.Word.kind.Goals as goal

-- A short word: one to eight letters.
abbrev isShort : Letters → Bool
isShort word = within 1 8 (length word) && lettered word

-- A word is a short one where it has its number, and is not where it has another.
module _ {number : ℕ} (letters : Letters) (proper : lettered letters ≡ true) (told : number ≡ short_number letters) where
  same_told : (word : Letters) → isShort word ≡ true → eqb number (number_of word) ≡ same letters word
  same_told word short =
      let size = and_left (within 1 8 (length word)) (lettered word) short in
      let lower = within_low 1 8 (length word) size in
      let upper = within_high 1 8 (length word) size in
      rw told (short_same letters word proper (and_right (within 1 8 (length word)) (lettered word) short) lower upper)

  kind_told : (word : Letters) → isShort word ≡ true → number ≡ number_of word → kind_kept word ≡ kind_kept letters
  kind_told word short e = ap kind_kept (sym (same_is letters word (sym (same_told word short) ∙ eq-eqb number (number_of word) e)))

  other_told : (word : Letters) → isShort word ≡ true → (number ≡ number_of word → ⊥) → same letters word ≡ false
  other_told word short n = sym (same_told word short) ∙ ne_eqb number (number_of word) n

pub returns-in-4279876 : goal.returns-in-4279876
unfolding kind_named position same lettered is_letter_or_digit within backwards number_of
returns-in-4279876 c letters e proper =
    kind_told letters proper (c.short.ensures letters e proper) (ascii "AND") refl c.in-4279876.is

pub returns-in-1312902724 : goal.returns-in-1312902724
unfolding kind_named position same lettered is_letter_or_digit within backwards number_of
returns-in-1312902724 c letters e proper =
    kind_told letters proper (c.short.ensures letters e proper) (ascii "NAND") refl c.in-1312902724.is

pub returns-in-20306 : goal.returns-in-20306
unfolding kind_named position same lettered is_letter_or_digit within backwards number_of
returns-in-20306 c letters e proper =
    kind_told letters proper (c.short.ensures letters e proper) (ascii "OR") refl c.in-20306.is

pub returns-in-5132114 : goal.returns-in-5132114
unfolding kind_named position same lettered is_letter_or_digit within backwards number_of
returns-in-5132114 c letters e proper =
    kind_told letters proper (c.short.ensures letters e proper) (ascii "NOR") refl c.in-5132114.is

pub returns-in-5787474 : goal.returns-in-5787474
unfolding kind_named position same lettered is_letter_or_digit within backwards number_of
returns-in-5787474 c letters e proper =
    kind_told letters proper (c.short.ensures letters e proper) (ascii "XOR") refl c.in-5787474.is

pub returns-in-1481527122 : goal.returns-in-1481527122
unfolding kind_named position same lettered is_letter_or_digit within backwards number_of
returns-in-1481527122 c letters e proper =
    kind_told letters proper (c.short.ensures letters e proper) (ascii "XNOR") refl c.in-1481527122.is

pub returns-in-5132116 : goal.returns-in-5132116
unfolding kind_named position same lettered is_letter_or_digit within backwards number_of
returns-in-5132116 c letters e proper =
    kind_told letters proper (c.short.ensures letters e proper) (ascii "NOT") refl c.in-5132116.is

pub returns-in-4347206 : goal.returns-in-4347206
unfolding kind_named position same lettered is_letter_or_digit within backwards number_of
returns-in-4347206 c letters e proper =
    let told = kind_told letters proper (c.short.ensures letters e proper) in
    ⊎_elim (told (ascii "BUF") refl) (told (ascii "BUFF") refl) c.in-4347206.is

pub returns-in_default : goal.returns-in_default
unfolding kind_named position lettered is_letter_or_digit within backwards number_of
returns-in_default c letters e proper =
    let no = other_told letters proper (c.short.ensures letters e proper) in
    rw (
      no (ascii "AND") refl (omega arith),
      no (ascii "NAND") refl (omega arith),
      no (ascii "OR") refl (omega arith),
      no (ascii "NOR") refl (omega arith),
      no (ascii "XOR") refl (omega arith),
      no (ascii "XNOR") refl (omega arith),
      no (ascii "NOT") refl (omega arith),
      no (ascii "BUF") refl (grind arith),
      no (ascii "BUFF") refl (grind arith),
    )
    refl
