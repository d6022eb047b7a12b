-- Words and names (request 1: "Names are 1 to 16 letters or digits").
use Rattle.std.specs.Prelude.{ℕ, zero, suc, Bool, true, false, cond, ◌&&◌, ◌||◌, List, [], ◌∷◌, eqb, length}
use Rattle.block.specs.Refusals.{within}

-- A word: the list of its bytes.
abbrev pub Letters : Type 0
Letters = List ℕ

-- Digits are bytes 48 to 57, capitals 65 to 90, small letters 97 to 122.
unfoldable pub is_letter_or_digit : ℕ → Bool
is_letter_or_digit byte = within 48 57 byte || (within 65 90 byte || within 97 122 byte)

-- Whether all bytes are letters or digits.
unfoldable pub lettered : Letters → Bool
lettered [] = true
lettered (byte ∷ rest) = is_letter_or_digit byte && lettered rest

-- Whether a word is a name.
unfoldable pub is_name : Letters → Bool
is_name word = within 1 16 (length word) && lettered word

-- Whether all words are names.
unfoldable pub are_names : List Letters → Bool
are_names [] = true
are_names (word ∷ words) = is_name word && are_names words

-- Whether two words have the same bytes. Case matters.
unfoldable pub same : Letters → Letters → Bool
same [] [] = true
same [] (b ∷ v) = false
same (a ∷ u) [] = false
same (a ∷ u) (b ∷ v) = eqb a b && same u v

-- Whether a word is one of the given ones.
unfoldable pub known : Letters → List Letters → Bool
known word [] = false
known word (first ∷ rest) = same word first || known word rest

-- Whether all of the words are.
unfoldable pub all_known : List Letters → List Letters → Bool
all_known [] given = true
all_known (word ∷ words) given = known word given && all_known words given

-- The number, from 0, of the first of the given words that a word is; how many there are where it is none.
unfoldable pub position : Letters → List Letters → ℕ
position word [] = zero
position word (first ∷ rest) = cond (same word first) zero (suc (position word rest))
