-- `netlist::split_line` meets its contract: the line goes on up to the first byte 10, and the rest starts after it; without such a byte
-- the line is the whole text.
-- Assumes nothing.
use Rattle.std.proofs.Common.{Some, None, cond}
use Prim.Native.Nat.{ℕ, suc, ◌+◌, ◌≤◌, ◌<◌}
use mathlib.Core.List.{List, [], ◌∷◌}
use mathlib.Core.Path.{◌≡◌, refl, ap, sym, ◌∙◌}
use native.Mathlib.Omega.{arith}
use lib.Dec.{ltb}
use lib.ListN.{length, take, drop, length-drop, drop_of_length-le}
use borrow.Author.Tests.{ltb-true, ltb-false, eqb-false}
use borrow.Table.Steps.{cases}
use Rattle.std.proofs.lemmas.List.{take_all, take_rest, length-take-le}
use Rattle.netlist.specs.Lines.{lines_of}
use Rattle.netlist.proofs.Parts.{line_length, lines_first, end_from, end_none}
use Rattle.netlist.proofs.split_line.Goals as goal

-- What the search for the line's end came to, by where that is and how long the text is.
found : (place size : ℕ) {before : ℕ} → cond (ltb place size) (Some place) None ≡ Some before → (before ≡ place) × (place < size)
found place size e =
    cases (ltb place size)
    (λ t. let told = rw t at e in (cc, ltb-true place size t))
    (λ t. let told = rw t at e in cc)

none_found : (place size : ℕ) → cond (ltb place size) (Some place) None ≡ None → size ≤ place
none_found place size e =
    cases (ltb place size)
    (λ t. let told = rw t at e in cc)
    (λ t. ltb-false place size t)

-- A text with a byte 10, and one that is not empty and has none.

ends_at : (text : List ℕ) (end : ℕ) → end ≡ line_length text → end < length text
    → lines_of text ≡ take end text ∷ lines_of (drop (end + 1) text)
ends_at text end e h =
    let next : suc (line_length text) ≡ end + 1 = omega arith in
    lines_first text (omega arith) ∙ rw (next, sym e) refl

ends_nowhere : (text : List ℕ) → 1 ≤ length text → length text ≤ line_length text → lines_of text ≡ text ∷ lines_of []
ends_nowhere text some past =
    lines_first text some ∙ rw (take_all _ text past, drop_of_length-le text {i = suc (line_length text)} (omega arith)) refl

pub returns-in-Some : goal.returns-in-Some
returns-in-Some c =
    let text = c.args.text.now in
    let after = c.in-Some.end + 1 in
    let ends = found (line_length text) (length text) (sym c.in-Some.ensures) in
    rw (take_rest text after)
    (record {
      first = record { is = ends_at text c.in-Some.end ends.0 (rw ends.0 ends.1); shorter = omega (arith, ends, length-drop after text) };
      begins = ap (λ n. take n text) (sym (length-take-le c.in-Some.end text (omega (arith, ends))));
      ends = end_from text after (omega (arith, ends));
    })

pub returns-in-None-2 : goal.returns-in-None-2
returns-in-None-2 c =
    let text = c.args.text.now in
    let other = eqb-false (length text) 0 (sym c.is_empty.ensures ∙ c.if-is_empty.false) in
    let some : 1 ≤ length text = omega arith in
    record {
      first = record { is = ends_nowhere text some (none_found (line_length text) (length text) (sym c.in-None.ensures)); shorter = omega arith };
      begins = sym (take_all (length text) text (omega arith));
      ends = end_none text;
    }
