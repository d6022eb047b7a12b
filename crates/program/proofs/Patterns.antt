-- Laws of the pattern's line: its words, one for each input.
-- Assumes nothing.
use Prim.Native.Nat.{ℕ, ◌+◌, ◌≤◌, ◌<◌}
use mathlib.Core.Bool.{cond}
use mathlib.Core.List.{List, [], ◌∷◌, ◌++◌}
use mathlib.Core.Path.{◌≡◌, refl, ap, sym, subst, ◌∙◌}
use native.Mathlib.Omega.{arith}
use lib.Dec.{ltb}
use lib.ListN.{length, get_or, take}
use Rattle.std.proofs.lemmas.List.{get_or-take, length-take-le}
use Rattle.laws.specs.Turn.{list_below}
use Rattle.laws.proofs.Turn.{list_at, list_long, list_map, list_same}
use Rattle.excitation.specs.Excitation.{excitation_of, pattern_of}
use Rattle.arrayvec.specs.ArrayString.{ArrayString}
use Rattle.program.specs.Lines.{line, written, Added}
use Rattle.program.specs.Program.{excitation_word, pattern_words}
use Rattle.program.proofs.Texts.{WordsWritten, written_next}

-- The bytes of the inputs alone have the same pattern.
pub pattern_cut : (inputs : ℕ) (bytes : List ℕ) → inputs ≤ length bytes → pattern_of (length (take inputs bytes)) (take inputs bytes) ≡ pattern_of inputs bytes
unfolding pattern_of
pattern_cut inputs bytes few =
    rw (length-take-le inputs bytes few)
    (list_same inputs _ _ (excitation_of 0) (λ net h. ap excitation_of (get_or-take inputs bytes net 0 h)))

module _ (inputs : ℕ) (bytes : List ℕ) where
  abbrev words : List (List ℕ)
  words = pattern_words (pattern_of inputs bytes)

  words_are : words ≡ list_below inputs (λ net. excitation_word (excitation_of (get_or bytes net 0)))
  unfolding pattern_of
  words_are = list_map excitation_word inputs (λ net. excitation_of (get_or bytes net 0))

  words_long : length words ≡ inputs
  words_long = ap length words_are ∙ list_long inputs _

  word_at : (net : ℕ) → net < inputs → get_or words net [] ≡ excitation_word (excitation_of (get_or bytes net 0))
  word_at net h = ap (λ ws. get_or ws net []) words_are ∙ list_at inputs _ net [] h

  -- No word is written yet.
  pub pattern_begun : (text : ArrayString) → 1 ≤ inputs → WordsWritten words 0 text (written text ++ line words)
  pattern_begun text some = record { going = λ h. refl; ended = λ e. absurd (let n = words_long in omega arith) }

  -- One word more.
  pub pattern_next : {net end : ℕ} {text text' : ArrayString} {all : List ℕ} → net < inputs → WordsWritten words net text all
      → Added text (excitation_word (excitation_of (get_or bytes net 0)) ++ (end ∷ [])) text' → end ≡ cond (ltb (net + 1) inputs) 32 10
      → WordsWritten words (net + 1) text' all
  pattern_next {net} {end} {text} {text'} h so_far added separated =
      written_next (rw words_long h) so_far
      (subst (λ word. Added text (word ++ (end ∷ [])) text') (sym (word_at net h)) added)
      (separated ∙ ap (λ n. cond (ltb (net + 1) n) 32 10) (sym words_long))

  -- All words are.
  pub pattern_ended : {net : ℕ} {text : ArrayString} {all : List ℕ} → net ≡ inputs → WordsWritten words net text all → written text ≡ all
  pattern_ended e so_far = so_far.ended (e ∙ sym words_long)
