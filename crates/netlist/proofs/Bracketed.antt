-- Laws of names in brackets, as they are read one after the other.
-- Assumes nothing.
use Prim.Native.Nat.{ℕ, ◌≤◌, ◌<◌}
use mathlib.Core.Bool.{Bool, true, false}
use mathlib.Core.List.{List, [], ◌∷◌, ◌++◌, map, append_assoc}
use mathlib.Core.Path.{◌≡◌, refl, ap, sym, ◌∙◌}
use native.Mathlib.Omega.{arith}
use lib.ListN.{length, length-append}
use Rattle.std.proofs.lemmas.List.{length-map, map-append}
use borrow.Author.Tests.{le-leb, lt-leb}
use borrow.Table.Steps.{cases}
use Rattle.std.proofs.Common.{Some, None}
use Rattle.std.specs.Bool.{then_some}
use Rattle.laws.proofs.Tests.{and_both, and_first_fails, and_second_fails}
use Rattle.netlist.specs.declared.Mark.TheVariants.{Comma, Close}
use Rattle.netlist.specs.declared.Name.{Name}
use Rattle.netlist.specs.declared.Piece.{Piece}
use Rattle.netlist.specs.Lines.{content}
use Rattle.netlist.specs.Names.{Letters, is_letter_or_digit, is_name, are_names}
use Rattle.netlist.specs.Forms.{Part, part, parts_of, begun_by, ended, closed, bracketed}
use Rattle.netlist.specs.Kept.{name_kept, word_kept, brackets_right, brackets_kept, names_kept, PieceRead}
use Rattle.netlist.proofs.KnownWords.{names_append}
use Rattle.netlist.proofs.Parts.{parts_in, piece_parts}

-- At least one word stands after a bracket, be it empty.
begun_some : (byte : ℕ) (parts : List Part) → length (begun_by byte parts) ≡ length parts
begun_some byte [] = refl
begun_some byte (first ∷ rest) = refl

parts_some : (content : List ℕ) → 1 ≤ length (parts_of content)
unfolding parts_of
parts_some [] = omega arith
parts_some (byte ∷ rest) =
    cases (is_letter_or_digit byte) (λ e. rw e (rw (begun_some byte (parts_of rest)) (parts_some rest))) (λ e. rw e (omega arith))

words_some : (parts : List Part) → 1 ≤ length parts → 1 ≤ length (bracketed parts)
unfolding bracketed
words_some [] h = absurd (omega arith)
words_some (first ∷ rest) h = omega arith

-- What makes words in brackets wrong, and right.

wrong_kept : (parts : List Part) → brackets_right parts ≡ false → None ≡ brackets_kept parts
unfolding brackets_kept
wrong_kept parts e = rw e refl

not_closed : (parts : List Part) → closed parts ≡ false → None ≡ brackets_kept parts
unfolding brackets_right
not_closed parts e = wrong_kept parts (and_first_fails _ e)

not_names : (parts : List Part) → are_names (bracketed parts) ≡ false → None ≡ brackets_kept parts
unfolding brackets_right
not_names parts e = wrong_kept parts (and_second_fails (closed parts) (and_first_fails _ e))

too_many : (parts : List Part) → 4 < length (bracketed parts) → None ≡ brackets_kept parts
unfolding brackets_right
too_many parts h =
    wrong_kept parts
    (and_second_fails (closed parts) (and_second_fails (are_names (bracketed parts)) (lt-leb (length (bracketed parts)) 4 h)))

right_kept_lem : (parts : List Part) (words : List Letters) → closed parts ≡ true → bracketed parts ≡ words → are_names words ≡ true
    → length words ≤ 4 → Some (names_kept words) ≡ brackets_kept parts
unfolding brackets_kept brackets_right
right_kept_lem parts words e b n h = rw (e, b, n, le-leb (length words) 4 h) refl

-- What is read after a bracket: names, and `rest` is left.
pub record NamesSoFar (line : List ℕ) (names : List Name) (rest : List ℕ) : Type 0 where
  pub words : List Letters
  pub proper : are_names words ≡ true
  pub kept : names ≡ map name_kept words
  pub closes : closed (parts_in line) ≡ closed (parts_in rest)
  pub goes_on : bracketed (parts_in line) ≡ words ++ bracketed (parts_in rest)

pub names_none : (line : List ℕ) (names : List Name) → names ≡ [] → NamesSoFar line names line
unfolding are_names
names_none line names e = record { words = []; proper = refl; kept = e; closes = refl; goes_on = refl }

module _ (line : List ℕ) (names : List Name) (rest : List ℕ) (s : NamesSoFar line names rest) where
  -- As many names are kept as are read.
  names_counted : length names ≡ length s.words
  names_counted = ap length s.kept ∙ length-map s.words name_kept

  pub names_many : 4 ≤ length names → None ≡ brackets_kept (parts_in line)
  names_many h =
      too_many (parts_in line)
      (omega (
        arith,
        ap length s.goes_on ∙ length-append s.words (bracketed (parts_in rest)),
        names_counted,
        words_some (parts_in rest) (parts_some (content rest)),
      ))

  module _ (piece : Piece) (r : PieceRead rest piece) where
    pub names_wrong : is_name r.letters ≡ false → None ≡ brackets_kept (parts_in line)
    unfolding bracketed are_names
    names_wrong e =
        not_names (parts_in line)
        (ap are_names s.goes_on ∙ names_append s.words (bracketed (parts_in rest))
        ∙ and_second_fails (are_names s.words) (ap (λ parts. are_names (bracketed parts)) r.is ∙ and_first_fails _ e))

    pub names_stop : closed (part r.letters piece.mark ∷ r.rest) ≡ false → None ≡ brackets_kept (parts_in line)
    names_stop e = not_closed (parts_in line) (s.closes ∙ ap closed r.is ∙ e)

    -- The names with this one.
    module _ (few : length names < 4) (named : is_name r.letters ≡ true) {names' : List Name}
        (pushed : names' ≡ names ++ (piece.word.name ∷ [])) where
      abbrev words' : List Letters
      words' = s.words ++ (r.letters ∷ [])

      many_more : length words' ≤ 4
      many_more = omega (arith, length-append s.words (r.letters ∷ []), names_counted)

      proper_more : are_names words' ≡ true
      unfolding are_names
      proper_more = names_append s.words (r.letters ∷ []) ∙ and_both s.proper (and_both named refl)

      kept_more : names' ≡ map name_kept words'
      unfolding word_kept
      kept_more = pushed ∙ rw (s.kept, ap (λ word. word.name) r.word, map-append name_kept s.words (r.letters ∷ [])) refl

      pub names_more : piece.mark ≡ Comma → NamesSoFar line names' piece.rest.now
      unfolding closed bracketed
      names_more m =
          let parts = piece_parts rest piece r Comma refl m in
          record {
            words = words';
            proper = proper_more;
            kept = kept_more;
            closes = s.closes ∙ ap closed parts;
            goes_on = s.goes_on ∙ ap (λ parts. s.words ++ bracketed parts) parts
                ∙ sym (append_assoc s.words (r.letters ∷ []) (bracketed (parts_in piece.rest.now)));
          }

      module _ (m : piece.mark ≡ Close) where
        last : closed (parts_in line) ≡ ended (parts_in piece.rest.now)
        unfolding closed
        last = s.closes ∙ ap closed (piece_parts rest piece r Close refl m)

        -- The other bracket has come: the names are right if it is the last of the line.
        pub names_closed : (end : Bool) → end ≡ ended (parts_in piece.rest.now) → then_some end names' ≡ brackets_kept (parts_in line)
        unfolding bracketed
        names_closed false e = not_closed (parts_in line) (last ∙ sym e)
        names_closed true e =
            let all : bracketed (parts_in line) ≡ words' =
            s.goes_on ∙ ap (λ parts. s.words ++ bracketed parts) (piece_parts rest piece r Close refl m) in
            rw kept_more (right_kept_lem (parts_in line) words' (last ∙ sym e) all proper_more many_more)
