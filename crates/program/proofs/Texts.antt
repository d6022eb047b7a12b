-- Laws of texts.
-- Assumes nothing.
use Prim.Native.Nat.{ℕ, suc, ◌+◌, ◌<◌}
use mathlib.Core.Bool.{cond}
use mathlib.Core.List.{List, [], ◌∷◌, ◌++◌, append_assoc}
use mathlib.Core.Path.{◌≡◌, ap, sym, ◌∙◌}
use native.Mathlib.Numerals.{add-one}
use native.Mathlib.Omega.{arith}
use lib.Dec.{ltb}
use lib.ListN.{length, get_or, drop}
use lib.Seq.{drop-cons, drop-length}
use borrow.Author.Tests.{lt-ltb, le-ltb}
use Rattle.arrayvec.specs.ArrayString.{ArrayString}
use Rattle.program.specs.Lines.{line, written, Added}

-- A line, word by word: what is written and what is left of the line make up `all`.

pub word_next : {text text' : ArrayString} (word next : List ℕ) (rest : List (List ℕ)) {all : List ℕ} → Added text (word ++ (32 ∷ [])) text'
    → written text ++ line (word ∷ next ∷ rest) ≡ all → written text' ++ line (next ∷ rest) ≡ all
unfolding line
word_next word next rest added so_far =
    ap (λ t. t ++ line (next ∷ rest)) added.bytes ∙ simp append_assoc so_far

pub word_last : {text text' : ArrayString} (word : List ℕ) {all : List ℕ} → Added text (word ++ (10 ∷ [])) text' → written text ++ line (word ∷ []) ≡ all
    → written text' ≡ all
unfolding line
word_last word added so_far = added.bytes ∙ so_far

-- The same for words that are listed, of which some are written.
pub record WordsWritten (words : List (List ℕ)) (k : ℕ) (text : ArrayString) (all : List ℕ) : Type 0 where
  pub going : k < length words → written text ++ line (drop k words) ≡ all
  pub ended : k ≡ length words → written text ≡ all

module _ {words : List (List ℕ)} {k end : ℕ} {text text' : ArrayString} {all : List ℕ} (h : k < length words) (so_far : WordsWritten words k text all)
    (added : Added text (get_or words k [] ++ (end ∷ [])) text') (separated : end ≡ cond (ltb (k + 1) (length words)) 32 10) where
  first : drop k words ≡ get_or words k [] ∷ drop (suc k) words
  first = drop-cons words k [] h

  pub written_next : WordsWritten words (k + 1) text' all
  written_next = record {
    going = λ more. (
        let second : drop (suc k) words ≡ get_or words (suc k) [] ∷ drop (suc (suc k)) words = drop-cons words (suc k) [] (omega arith) in
        let blank : end ≡ 32 = separated ∙ ap (λ b. cond b 32 10) (lt-ltb (k + 1) (length words) more) in
        let now = ap (λ ws. written text ++ line ws) (ap (λ ws. get_or words k [] ∷ ws) (sym second) ∙ sym first) ∙ so_far.going h in
        rw (add-one k, second) (word_next (get_or words k []) (get_or words (suc k) []) (drop (suc (suc k)) words) (rw blank at added) now));
    ended = λ done. (
        let none : drop (suc k) words ≡ [] = ap (λ n. drop n words) (sym (add-one k) ∙ done) ∙ drop-length words in
        let feed : end ≡ 10 = separated ∙ ap (λ b. cond b 32 10) (le-ltb (k + 1) (length words) (omega arith)) in
        let now = ap (λ ws. written text ++ line ws) (ap (λ ws. get_or words k [] ∷ ws) (sym none) ∙ sym first) ∙ so_far.going h in
        word_last (get_or words k []) (rw feed at added) now);
  }
