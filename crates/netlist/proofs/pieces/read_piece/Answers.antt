-- `netlist::pieces::read_piece` meets its contract.
-- Assumes nothing.
use mathlib.Core.Path.{refl, sym, ◌∙◌}
use Prim.Native.Nat.{◌+◌}
use native.Mathlib.Omega.{arith}
use Rattle.std.proofs.lemmas.List.{take_rest}
use Rattle.netlist.proofs.Parts.{letter_tested, piece_begun, split_ended, split_commented, piece_letter, piece_blank, split_marked}
use Rattle.netlist.proofs.pieces.read_piece.Goals as goal
use Rattle.netlist.proofs.pieces.read_piece.Goals.{then-is_ascii_alphanumeric, else-is_ascii_alphanumeric+else-not-is_blank, else-loop-at-test, then-loop-at-test+then-byte-eq35}

pub loop-at-init : goal.loop-at-init
loop-at-init c = piece_begun _ _ c.default-word.ensures

pub returns-then-not-is_blank : goal.returns-then-not-is_blank
returns-then-not-is_blank c =
    let loop = c.loop-at in
    split_marked _ loop.word loop.at loop.invariant (omega arith)
    c.if-byte-eq35.false _ refl
    (sym c.is_blank.ensures ∙ c.if-not-is_blank.true)
    (sym (c.is_ascii_alphanumeric.ensures.value ∙ letter_tested _) ∙ c.if-is_ascii_alphanumeric.false) c.from.ensures (take_rest _ (loop.at + 1))

pub loop-at-preserved : goal.loop-at-preserved
loop-at-preserved c =
    let loop = c.loop-at in
    elim c.if-is_ascii_alphanumeric.branch [
      | then-is_ascii_alphanumeric w ↦ rw w.word-is (piece_letter _ _ loop.at loop.invariant (omega arith)
          c.if-byte-eq35.false w.with-word.result
          (sym (c.is_ascii_alphanumeric.ensures.value ∙ letter_tested _) ∙ w.if-is_ascii_alphanumeric.true) w.with-word.ensures)
      | else-is_ascii_alphanumeric+else-not-is_blank w ↦ rw w.word-is (piece_blank _ _ loop.at loop.invariant (omega arith)
          c.if-byte-eq35.false (sym w.is_blank.ensures ∙ w.if-not-is_blank.false))
    ]

pub returns : goal.returns
returns c =
    let loop = c.loop-at in
    elim c.loop-at-test.branch [
      | else-loop-at-test w ↦ split_ended _ loop.word loop.at loop.invariant (omega arith) _ refl refl refl
      | then-loop-at-test+then-byte-eq35 w ↦ split_commented _ loop.word loop.at loop.invariant (omega arith) w.if-byte-eq35.true _ refl refl refl
    ]
