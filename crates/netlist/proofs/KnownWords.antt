-- Laws of words among others: which are the same, which are known, where a known one stands, and which are names.
-- Assumes nothing.
use Prim.Native.Nat.{ℕ, zero, suc, ◌<◌}
use mathlib.Core.Bool.{Bool, true, false, cond, ◌&&◌, ◌||◌, and_assoc, or_assoc, false≢true}
use mathlib.Core.List.{List, [], ◌∷◌, ◌++◌}
use mathlib.Core.Path.{◌≡◌, refl, sym, ap, ◌∙◌}
use native.Mathlib.Omega.{arith}
use lib.Dec.{ltb, leb-suc-suc}
use lib.ListN.{length, get_or}
use borrow.Author.Tests.{lt-ltb, ltb-true}
use borrow.Table.Steps.{cases}
use Rattle.laws.specs.Below.{all_below}
use Rattle.laws.proofs.Tests.{and_left, and_right, or_first, or_second}
use Rattle.laws.proofs.Below.{all_first}
use Rattle.netlist.specs.Names.{Letters, is_name, are_names, same, known, all_known, position}
use Rattle.netlist.proofs.Packing.{same_self, same_is, same_test}

-- Sameness either way round.
pub same_turned : (u v : Letters) → same u v ≡ same v u
same_turned u v = same_test (same u v) v u (λ e. sym (same_is u v e)) (λ e. rw e (same_self u))

-- Each of some names is one, and names after others are names.

pub name_at : (names : List Letters) → are_names names ≡ true → (i : ℕ) → i < length names → is_name (get_or names i []) ≡ true
unfolding are_names
name_at [] e i h = absurd (omega arith)
name_at (word ∷ words) e zero h = and_left (is_name word) (are_names words) e
name_at (word ∷ words) e (suc i) h = name_at words (and_right (is_name word) (are_names words) e) i (omega arith)

pub names_append : (u v : List Letters) → are_names (u ++ v) ≡ (are_names u && are_names v)
unfolding are_names
names_append [] v = refl
names_append (word ∷ u) v = rw (names_append u v) (sym (and_assoc (is_name word) (are_names u) (are_names v)))

-- A word is known among words and others where it is among the ones or the others.
pub known_append : (word : Letters) (u v : List Letters) → known word (u ++ v) ≡ (known word u || known word v)
unfolding known
known_append word [] v = refl
known_append word (first ∷ u) v =
    ap (λ b. same word first || b) (known_append word u v) ∙ sym (or_assoc (same word first) (known word u) (known word v))

-- A word that is not known differs from each of the words.
pub unknown_differs : (word : Letters) (words : List Letters) (i : ℕ) → known word words ≡ false → i < length words
    → same word (get_or words i []) ≡ false
unfolding known
unknown_differs word words i e h =
    cases (same word (get_or words i [])) (λ t. absurd (false≢true (sym e ∙ found words i h t))) (λ t. t)
  where
    found : (words : List Letters) (i : ℕ) → i < length words → same word (get_or words i []) ≡ true → known word words ≡ true
    found [] i h t = absurd (omega arith)
    found (first ∷ rest) zero h t = or_first (known word rest) t
    found (first ∷ rest) (suc i) h t = or_second (same word first) (found rest i (omega arith) t)

pub all_known_at : (pins words : List Letters) (p : ℕ) → all_known pins words ≡ true → p < length pins → known (get_or pins p []) words ≡ true
unfolding all_known
all_known_at [] words p e h = absurd (omega arith)
all_known_at (pin ∷ pins) words zero e h = and_left (known pin words) (all_known pins words) e
all_known_at (pin ∷ pins) words (suc p) e h = all_known_at pins words p (and_right (known pin words) (all_known pins words) e) (omega arith)

-- A word is known where its position is one of the words'.

place_more : (b k : Bool) (place count : ℕ) → k ≡ ltb place count → (b || k) ≡ ltb (cond b zero (suc place)) (suc count)
place_more true k place count e = sym (lt-ltb 0 (suc count) (omega arith))
place_more false k place count e = e ∙ sym (leb-suc-suc (suc place) count)

pub known_by_position : (word : Letters) (words : List Letters) → known word words ≡ ltb (position word words) (length words)
unfolding known position
known_by_position word [] = refl
known_by_position word (first ∷ rest) =
    place_more (same word first) (known word rest) (position word rest) (length rest) (known_by_position word rest)

pub all_known_by_position : (pins words : List Letters)
    → all_known pins words ≡ all_below (length pins) (λ p. ltb (position (get_or pins p []) words) (length words))
unfolding all_known all_below
all_known_by_position [] words = refl
all_known_by_position (pin ∷ pins) words =
    rw (known_by_position pin words, all_known_by_position pins words)
    (sym (all_first (length pins) (λ p. ltb (position (get_or (pin ∷ pins) p []) words) (length words))))

-- It stands there.

pub at_position : (word : Letters) (words : List Letters) → position word words < length words
    → get_or words (position word words) [] ≡ word
unfolding position
at_position word [] h = absurd (omega arith)
at_position word (first ∷ rest) h =
    cases (same word first)
    (λ e. rw e (sym (same_is word first e)))
    (λ e. rw e (at_position word rest (let h' = rw e at h in omega arith)))

-- Among words, a word stands at a place.
abbrev pub StandsAt : Letters → List Letters → ℕ → Type 0
StandsAt word words at = (at < length words) × (get_or words at [] ≡ word)

pub known_stands : (word : Letters) (words : List Letters) → known word words ≡ true → StandsAt word words (position word words)
known_stands word words e =
    let inside = ltb-true (position word words) (length words) (sym (known_by_position word words) ∙ e) in
    (inside, at_position word words inside)
