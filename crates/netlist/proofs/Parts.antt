-- Laws of lines, of their content and of its parts, as pieces are read one byte after the other.
-- Assumes nothing.
use Prim.Native.Nat.{ℕ, suc, ◌+◌, ◌-◌, ◌≤◌, ◌<◌, min}
use mathlib.Core.Bool.{true, false, ◌||◌, or_assoc, false≢true}
use mathlib.Core.List.{List, [], ◌∷◌, ◌++◌, append-nil, append_assoc}
use mathlib.Core.Path.{◌≡◌, refl, ap, sym, ◌∙◌}
use native.Mathlib.Numerals.{add-one, one-add}
use native.Mathlib.Omega.{arith}
use lib.Dec.{eqb}
use lib.ListN.{length, get_or, take, drop, length-drop, drop_of_length-le}
use lib.Seq.{drop-cons}
use borrow.Author.Tests.{eqb-true, ne_eqb}
use borrow.Table.Steps.{cases}
use Rattle.laws.proofs.Tests.{and_both, or_cases}
use Rattle.std.specs.Char.{is_ascii_alphanumeric}
use Rattle.std.specs.List.{position_or_len}
use Rattle.block.specs.Refusals.{within}
use Rattle.netlist.specs.declared.Mark.{Mark}
use Rattle.netlist.specs.declared.Mark.TheVariants.{End}
use Rattle.netlist.specs.declared.Piece.{Piece}
use Rattle.netlist.specs.declared.Word.{Word}
use Rattle.netlist.specs.Lines.{lines_of, started_by, is_blank, uncommented, without_blanks, content}
use Rattle.netlist.specs.Names.{Letters, is_letter_or_digit, lettered}
use Rattle.netlist.specs.Forms.{Part, part, parts_of, mark_of, begun_by, is_empty, is_end}
use Rattle.netlist.specs.Kept.{word_kept, OfLetters, EndOf, PieceRead, PieceSplit}
use Rattle.netlist.proofs.Packing.{first_proper, rest_proper, kept_none}

-- How many bytes come before the first byte 10, all of them where there is none.
abbrev pub line_length : List ℕ → ℕ
line_length text = position_or_len (λ byte. eqb byte 10) text

-- The first line of a text that is not empty ends at the first byte 10.
pub lines_first : (text : List ℕ) → 1 ≤ length text
    → lines_of text ≡ take (line_length text) text ∷ lines_of (drop (suc (line_length text)) text)
unfolding lines_of
lines_first [] h = absurd (omega arith)
lines_first (byte ∷ []) h = cases (eqb byte 10) (λ e. rw e refl) (λ e. rw e refl)
lines_first (byte ∷ next ∷ rest) h =
    cases (eqb byte 10) (λ e. rw e refl)
    (λ e. rw e (rw one-add (ap (started_by byte) (lines_first (next ∷ rest) (omega arith)))))

-- A text ends with what stands from a byte on, and with nothing.

pub end_from : (text : List ℕ) (at : ℕ) → at ≤ length text → EndOf text (drop at text)
end_from text at h =
    let from : length text - length (drop at text) ≡ at = omega (arith, length-drop at text) in ap (λ n. drop n text) (sym from)

pub end_none : (text : List ℕ) → EndOf text []
end_none text = sym (drop_of_length-le text (omega arith))

-- Letters and digits as the code tests them.
pub letter_tested : (byte : ℕ) → is_ascii_alphanumeric byte ≡ is_letter_or_digit byte
unfolding is_letter_or_digit within
letter_tested byte = or_assoc (within 48 57 byte) (within 65 90 byte) (within 97 122 byte)

-- No blank is a letter.
blank_no_letter : (byte : ℕ) → is_blank byte ≡ true → is_letter_or_digit byte ≡ false
unfolding is_blank is_letter_or_digit within
blank_no_letter byte e =
    or_cases (eqb byte 9) (eqb byte 13 || eqb byte 32) e (λ t. rw (eqb-true byte 9 t) refl)
    (λ s. or_cases (eqb byte 13) (eqb byte 32) s (λ t. rw (eqb-true byte 13 t) refl) (λ t. rw (eqb-true byte 32 t) refl))

-- A letter more of letters alone.
lettered_more : (letters : Letters) (byte : ℕ) → lettered letters ≡ true → is_letter_or_digit byte ≡ true
    → lettered (letters ++ (byte ∷ [])) ≡ true
unfolding lettered
lettered_more [] byte h e = and_both e refl
lettered_more (first ∷ rest) byte h e =
    and_both (first_proper first rest h) (lettered_more rest byte (rest_proper first rest h) e)

-- Letters put before the first part.
abbrev begun_with : Letters → List Part → List Part
begun_with letters [] = []
begun_with letters (first ∷ rest) = part (letters ++ first.word) first.mark ∷ rest

begun_none : (parts : List Part) → parts ≡ begun_with [] parts
begun_none [] = refl
begun_none (first ∷ rest) = refl

begun_more : (letters : Letters) (byte : ℕ) (parts : List Part)
    → begun_with letters (begun_by byte parts) ≡ begun_with (letters ++ (byte ∷ [])) parts
begun_more letters byte [] = refl
begun_more letters byte (first ∷ rest) = ap (λ word. part word first.mark ∷ rest) (sym (append_assoc letters (byte ∷ []) first.word))

-- The parts of a line, and of what is left of it from a byte on, and that byte.

abbrev pub parts_in : List ℕ → List Part
parts_in line = parts_of (content line)

abbrev parts_from : List ℕ → ℕ → List Part
parts_from line at = parts_in (drop at line)

abbrev byte_at : List ℕ → ℕ → ℕ
byte_at line at = get_or line at 0

-- The parts by what the byte is.
module _ (line : List ℕ) (at : ℕ) (inside : at < length line) where
  from_byte : drop at line ≡ byte_at line at ∷ drop (at + 1) line
  from_byte = drop-cons line at 0 inside ∙ rw add-one refl

  at_comment : byte_at line at ≡ 35 → parts_from line at ≡ part [] End ∷ []
  unfolding content uncommented without_blanks parts_of
  at_comment e = rw (from_byte, e) refl

  module _ (other : byte_at line at ≡ 35 → ⊥) where
    at_blank : is_blank (byte_at line at) ≡ true → parts_from line at ≡ parts_from line (at + 1)
    unfolding content uncommented without_blanks
    at_blank e = rw (from_byte, ne_eqb (byte_at line at) 35 other, e) refl

    pub at_letter : is_letter_or_digit (byte_at line at) ≡ true → parts_from line at ≡ begun_by (byte_at line at) (parts_from line (at + 1))
    unfolding content uncommented without_blanks parts_of
    at_letter e =
        cases (is_blank (byte_at line at))
        (λ t. absurd (false≢true (sym (blank_no_letter (byte_at line at) t) ∙ e)))
        (λ t. rw (from_byte, ne_eqb (byte_at line at) 35 other, t, e) refl)

    at_mark : is_blank (byte_at line at) ≡ false → is_letter_or_digit (byte_at line at) ≡ false
        → parts_from line at ≡ part [] (mark_of (byte_at line at)) ∷ parts_from line (at + 1)
    unfolding content uncommented without_blanks parts_of
    at_mark e f = rw (from_byte, ne_eqb (byte_at line at) 35 other, e, f) refl

at_end : (line : List ℕ) (at : ℕ) → length line ≤ at → parts_from line at ≡ part [] End ∷ []
unfolding content uncommented without_blanks parts_of
at_end line at h = rw (drop_of_length-le line h) refl

-- What is read of a piece: letters, and the piece goes on with the parts from `at` on.
pub record PieceSoFar (line : List ℕ) (word : Word) (at : ℕ) : Type 0 where
  pub letters : Letters
  pub kept : word ≡ word_kept letters
  pub proper : lettered letters ≡ true
  pub goes_on : parts_in line ≡ begun_with letters (parts_from line at)

pub piece_begun : (line : List ℕ) (word : Word) → ((word.name.first ≡ 0) × (word.name.second ≡ 0)) × (word.length ≡ 0)
    → PieceSoFar line word 0
unfolding lettered
piece_begun line word e = record { letters = []; kept = kept_none word e; proper = refl; goes_on = begun_none _ }

-- The piece that the letters so far make with the first of the parts that are left.
piece_read : (line : List ℕ) (at : ℕ) (piece : Piece) (rest : List Part) → PieceSoFar line piece.word at
    → parts_from line at ≡ part [] piece.mark ∷ rest
    → (is_end piece.mark ≡ false → rest ≡ parts_in piece.rest.now) → PieceRead line piece
piece_read line at piece rest s e goes_on = record {
  letters = s.letters;
  rest = rest;
  is = s.goes_on ∙ ap (begun_with s.letters) e ∙ ap (λ letters. part letters piece.mark ∷ rest) (append-nil s.letters);
  word = s.kept;
  proper = s.proper;
  goes_on = goes_on;
}

-- What one byte more makes of a piece: `piece_` laws say what is read of it, and `split_` laws also that the line ends with what is left.
module _ (line : List ℕ) (word : Word) (at : ℕ) (s : PieceSoFar line word at) where
  piece_last : parts_from line at ≡ part [] End ∷ [] → (piece : Piece) → piece.word ≡ word → piece.mark ≡ End → PieceRead line piece
  piece_last e piece w m =
      piece_read line at piece [] (rw w s) (rw m e) (λ t. absurd (false≢true (sym t ∙ ap is_end m)))

  pub piece_ended : length line ≤ at → (piece : Piece) → piece.word ≡ word → piece.mark ≡ End → PieceRead line piece
  piece_ended h = piece_last (at_end line at h)

  pub split_ended : length line ≤ at → (piece : Piece) → piece.word ≡ word → piece.mark ≡ End → piece.rest.now ≡ [] → PieceSplit line piece
  split_ended h piece w m r = record { read = piece_ended h piece w m; ends = rw r (end_none line) }

  module _ (on : at < length line) where
    pub piece_commented : byte_at line at ≡ 35 → (piece : Piece) → piece.word ≡ word → piece.mark ≡ End → PieceRead line piece
    piece_commented e = piece_last (at_comment line at on e)

    pub split_commented : byte_at line at ≡ 35 → (piece : Piece) → piece.word ≡ word → piece.mark ≡ End → piece.rest.now ≡ []
        → PieceSplit line piece
    split_commented e piece w m r = record { read = piece_commented e piece w m; ends = rw r (end_none line) }

    module _ (other : byte_at line at ≡ 35 → ⊥) where
      pub piece_letter : (word' : Word) → is_letter_or_digit (byte_at line at) ≡ true
          → OfLetters word (λ letters. word' ≡ word_kept (letters ++ (byte_at line at ∷ []))) → PieceSoFar line word' (at + 1)
      piece_letter word' e kept = record {
        letters = s.letters ++ (byte_at line at ∷ []);
        kept = kept s.letters s.kept s.proper;
        proper = lettered_more s.letters (byte_at line at) s.proper e;
        goes_on = s.goes_on ∙ ap (begun_with s.letters) (at_letter line at on other e)
            ∙ begun_more s.letters (byte_at line at) (parts_from line (at + 1));
      }

      pub piece_blank : is_blank (byte_at line at) ≡ true → PieceSoFar line word (at + 1)
      piece_blank e = record {
        letters = s.letters;
        kept = s.kept;
        proper = s.proper;
        goes_on = s.goes_on ∙ ap (begun_with s.letters) (at_blank line at on other e);
      }

      pub piece_marked : (piece : Piece) → piece.word ≡ word → is_blank (byte_at line at) ≡ false → is_letter_or_digit (byte_at line at) ≡ false
          → piece.mark ≡ mark_of (byte_at line at) → piece.rest.now ≡ drop (at + 1) line → PieceRead line piece
      piece_marked piece w e f m r =
          piece_read line at piece (parts_from line (at + 1)) (rw w s)
          (at_mark line at on other e f ∙ ap (λ m. part [] m ∷ parts_from line (at + 1)) (sym m)) (λ t. ap parts_in (sym r))

      pub split_marked : (piece : Piece) → piece.word ≡ word → is_blank (byte_at line at) ≡ false → is_letter_or_digit (byte_at line at) ≡ false
          → piece.mark ≡ mark_of (byte_at line at) → piece.rest.now ≡ drop (at + 1) line → PieceSplit line piece
      split_marked piece w e f m r = record { read = piece_marked piece w e f m r; ends = rw r (end_from line (at + 1) (omega arith)) }

-- A word that has no letter.
pub kept_empty : (letters : Letters) (word : Word) → word ≡ word_kept letters → eqb word.length 0 ≡ is_empty letters
unfolding word_kept
kept_empty [] word e = rw e refl
kept_empty (letter ∷ rest) word e = rw e (ne_eqb (min (suc (length rest)) 17) 0 (λ z. omega arith))

-- The parts from a piece on, where the line goes on after it.
pub piece_parts : (line : List ℕ) (piece : Piece) (r : PieceRead line piece) (mark : Mark) → is_end mark ≡ false
    → piece.mark ≡ mark → parts_in line ≡ part r.letters mark ∷ parts_in piece.rest.now
piece_parts line piece r mark e m =
    r.is ∙ ap (λ mark. part r.letters mark ∷ r.rest) m ∙ ap (λ rest. part r.letters mark ∷ rest) (r.goes_on (ap is_end m ∙ e))

-- What is said of the word of a piece by its letters.
pub of_piece : {line : List ℕ} {piece : Piece} (P : Letters → Type 0) (r : PieceRead line piece) → OfLetters piece.word P → P r.letters
of_piece P r said = said r.letters r.word r.proper
