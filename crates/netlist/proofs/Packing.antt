-- Laws of words as numbers: how great they are, a letter more, and that no two words or names have the same.
-- Assumes nothing.
use Prim.Native.Nat.{ℕ, zero, suc, ◌+◌, ◌*◌, ◌%◌, ◌^◌, ◌≤◌, ◌<◌, min}
use mathlib.Core.Bool.{Bool, true, false, cond, ◌&&◌, ◌||◌, false≢true}
use mathlib.Core.List.{[], ◌∷◌, ◌++◌, reverse, reverse_aux, reverse-append, reverse-reverse}
use mathlib.Core.Path.{◌≡◌, refl, ap, sym, ◌∙◌}
use native.Mathlib.Nat.{pow-succ', pow-le-pow_right, mod-eq_of_lt}
use native.Mathlib.Omega.{arith}
use lib.Dec.{eqb, leb}
use lib.ListN.{length, take, drop, length-append, length-drop, length-reverse, drop_of_length-le}
use lib.Seq.{take_all, take-add, take-append-le, drop-append-le}
use borrow.Author.Tests.{eqb-true, eq-eqb, leb-true, le-leb, lt-leb}
use Rattle.laws.proofs.Tests.{and_left, and_right, and_both, or_cases}
use Rattle.block.specs.Refusals.{within}
use Rattle.block.proofs.Fields.{within_low, within_high}
use Rattle.netlist.specs.declared.Name.{Name}
use Rattle.netlist.specs.declared.Word.{Word}
use Rattle.netlist.specs.Names.{Letters, is_letter_or_digit, lettered, is_name, same}
use Rattle.netlist.specs.Kept.{backwards, number_of, short_number, name_kept, word_kept, same_name}

-- Two tests that pass together are the same.
alike : (a b : Bool) → (a ≡ true → b ≡ true) → (b ≡ true → a ≡ true) → a ≡ b
alike true b f g = sym (f refl)
alike false true f g = absurd (false≢true (g refl))
alike false false f g = refl

-- Two words have the same bytes where they are the same.
pub same_self : (u : Letters) → same u u ≡ true
unfolding same
same_self [] = refl
same_self (a ∷ u) = and_both (eq-eqb a a refl) (same_self u)

pub same_is : (u v : Letters) → same u v ≡ true → u ≡ v
unfolding same
same_is [] [] e = refl
same_is [] (b ∷ v) e = absurd (false≢true e)
same_is (a ∷ u) [] e = absurd (false≢true e)
same_is (a ∷ u) (b ∷ v) e =
    let first = eqb-true a b (and_left (eqb a b) (same u v) e) in
    let rest = same_is u v (and_right (eqb a b) (same u v) e) in
    cc

-- A test that passes where two words are the same, and only there.
pub same_test : (t : Bool) (u v : Letters) → (t ≡ true → u ≡ v) → (u ≡ v → t ≡ true) → t ≡ same u v
same_test t u v f g = alike t (same u v) (λ e. rw (f e) (same_self v)) (λ e. g (same_is u v e))

-- Letters and digits are bytes, and none is 0.
within_bytes : (low high byte : ℕ) → 1 ≤ low → high < 256 → within low high byte ≡ true → (1 ≤ byte) × (byte < 256)
within_bytes low high byte l h t = (omega (arith, within_low low high byte t), omega (arith, within_high low high byte t))

letter_byte : (byte : ℕ) → is_letter_or_digit byte ≡ true → (1 ≤ byte) × (byte < 256)
unfolding is_letter_or_digit
letter_byte byte e =
    or_cases (within 48 57 byte) (within 65 90 byte || within 97 122 byte) e (within_bytes 48 57 byte (omega arith) (omega arith))
    (λ t. or_cases (within 65 90 byte) (within 97 122 byte) t (within_bytes 65 90 byte (omega arith) (omega arith))
    (within_bytes 97 122 byte (omega arith) (omega arith)))

module _ (byte : ℕ) (word : Letters) (proper : lettered (byte ∷ word) ≡ true) where
  pub first_proper : is_letter_or_digit byte ≡ true
  unfolding lettered
  first_proper = and_left (is_letter_or_digit byte) (lettered word) proper

  pub rest_proper : lettered word ≡ true
  unfolding lettered
  rest_proper = and_right (is_letter_or_digit byte) (lettered word) proper

-- Words of letters alone: backwards, the first letters, and what follows them.
reverse_aux_proper : (u v : Letters) → lettered u ≡ true → lettered v ≡ true → lettered (reverse_aux u v) ≡ true
unfolding lettered
reverse_aux_proper [] v f g = g
reverse_aux_proper (a ∷ u) v f g = reverse_aux_proper u (a ∷ v) (rest_proper a u f) (and_both (first_proper a u f) g)

reverse_proper : (u : Letters) → lettered u ≡ true → lettered (reverse u) ≡ true
unfolding lettered
reverse_proper u f = reverse_aux_proper u [] f refl

take_proper : (n : ℕ) (u : Letters) → lettered u ≡ true → lettered (take n u) ≡ true
unfolding lettered
take_proper zero u f = refl
take_proper (suc n) [] f = refl
take_proper (suc n) (a ∷ u) f = and_both (first_proper a u f) (take_proper n u (rest_proper a u f))

drop_proper : (n : ℕ) (u : Letters) → lettered u ≡ true → lettered (drop n u) ≡ true
unfolding lettered
drop_proper zero u f = f
drop_proper (suc n) [] f = refl
drop_proper (suc n) (a ∷ u) f = drop_proper n u (rest_proper a u f)

-- Two words of letters with the same number are the same.
backwards_one : (u v : Letters) → lettered u ≡ true → lettered v ≡ true → backwards u ≡ backwards v → u ≡ v
unfolding backwards
backwards_one [] [] f g e = refl
backwards_one [] (b ∷ v) f g e = absurd (omega (arith, (letter_byte b (first_proper b v g)).0))
backwards_one (a ∷ u) [] f g e = absurd (omega (arith, (letter_byte a (first_proper a u f)).0))
backwards_one (a ∷ u) (b ∷ v) f g e =
    let la = letter_byte a (first_proper a u f) in
    let lb = letter_byte b (first_proper b v g) in
    let first : a ≡ b = omega arith in
    let rest = backwards_one u v (rest_proper a u f) (rest_proper b v g) (omega arith) in
    cc

number_of_one : (u v : Letters) → lettered u ≡ true → lettered v ≡ true → number_of u ≡ number_of v → u ≡ v
unfolding number_of
number_of_one u v f g e =
    let turned = backwards_one (reverse u) (reverse v) (reverse_proper u f) (reverse_proper v g) e in
    cc (ap (reverse {A = ℕ}) turned, reverse-reverse u, reverse-reverse v)

-- A name is its first eight letters and the next eight.
name_split : (u : Letters) → is_name u ≡ true → take 8 u ++ take 8 (drop 8 u) ≡ u
unfolding is_name
name_split u n =
    let few = within_high 1 16 (length u) (and_left (within 1 16 (length u)) (lettered u) n) in
    sym (take-add 8 8 u) ∙ take_all 16 u few

pub name_proper : (u : Letters) → is_name u ≡ true → lettered u ≡ true
unfolding is_name
name_proper u n = and_right (within 1 16 (length u)) (lettered u) n

module _ (a b : Name) (e : same_name a b ≡ true) where
  first_same : a.first ≡ b.first
  first_same = eqb-true a.first b.first (and_left (eqb a.first b.first) (eqb a.second b.second) e)

  second_same : a.second ≡ b.second
  second_same = eqb-true a.second b.second (and_right (eqb a.first b.first) (eqb a.second b.second) e)

eight_one : (u v : Letters) → lettered u ≡ true → lettered v ≡ true → number_of (take 8 u) ≡ number_of (take 8 v) → take 8 u ≡ take 8 v
eight_one u v f g e = number_of_one (take 8 u) (take 8 v) (take_proper 8 u f) (take_proper 8 v g) e

-- Two names are kept alike where they are the same.
name_kept_one : (u v : Letters) → is_name u ≡ true → is_name v ≡ true → same_name (name_kept u) (name_kept v) ≡ true → u ≡ v
unfolding name_kept
name_kept_one u v n m e =
    let f = name_proper u n in
    let g = name_proper v m in
    let first = eight_one u v f g (first_same (name_kept u) (name_kept v) e) in
    let rest = second_same (name_kept u) (name_kept v) e in
    let second = eight_one (drop 8 u) (drop 8 v) (drop_proper 8 u f) (drop_proper 8 v g) rest in
    cc (name_split u n, name_split v m)

pub kept_same : (u v : Letters) → is_name u ≡ true → is_name v ≡ true → same_name (name_kept u) (name_kept v) ≡ same u v
kept_same u v n m =
    same_test (same_name (name_kept u) (name_kept v)) u v (name_kept_one u v n m)
    (λ e. rw e (and_both (eq-eqb (name_kept v).first (name_kept v).first refl) (eq-eqb (name_kept v).second (name_kept v).second refl)))

-- A word has the number of a short one where it is the same.
short_one : (letters other : Letters) → lettered letters ≡ true → lettered other ≡ true → 1 ≤ length other
    → (t : Bool) → cond t (number_of letters) 0 ≡ number_of other → letters ≡ other
unfolding number_of backwards lettered
short_one letters other f g some true e = number_of_one letters other f g e
short_one letters other f g some false e =
    let nothing = number_of_one [] other refl g e in
    absurd (omega (arith, ap length nothing))

pub short_same : (letters other : Letters) → lettered letters ≡ true → lettered other ≡ true → 1 ≤ length other → length other ≤ 8
    → eqb (short_number letters) (number_of other) ≡ same letters other
unfolding short_number
short_same letters other f g some few =
    same_test (eqb (short_number letters) (number_of other)) letters other
    (λ e. short_one letters other f g some (leb (length letters) 8) (eqb-true _ _ e))
    (λ e. rw (e, le-leb (length other) 8 few) (eq-eqb (number_of other) (number_of other) refl))

-- The number of a word of letters is below as many bytes as the word has letters.
backwards_below : (u : Letters) → lettered u ≡ true → backwards u < 256 ^ length u
unfolding backwards
backwards_below [] f = omega arith
backwards_below (a ∷ u) f =
    let first = letter_byte a (first_proper a u f) in
    let rest = backwards_below u (rest_proper a u f) in
    rw (pow-succ' 256 (length u)) (omega arith)

number_of_below : (n : ℕ) (word : Letters) → lettered word ≡ true → length word ≤ n → number_of word < 256 ^ n
unfolding number_of
number_of_below n word f few =
    let less = rw (length-reverse word) at (backwards_below (reverse word) (reverse_proper word f)) in
    omega (arith, less, pow-le-pow_right {n = 256} (omega arith) few)

-- A letter more.
number_of_more : (word : Letters) (letter : ℕ) → number_of (word ++ (letter ∷ [])) ≡ 256 * number_of word + letter
unfolding number_of backwards
number_of_more word letter = rw (reverse-append word (letter ∷ [])) refl

module _ (word : Letters) (letter : ℕ) where
  length_more : length (word ++ (letter ∷ [])) ≡ length word + 1
  length_more = length-append word (letter ∷ [])

  -- Within the first eight letters, and past them.
  take_more : length word < 8 → take 8 (word ++ (letter ∷ [])) ≡ word ++ (letter ∷ [])
  take_more few = take_all 8 (word ++ (letter ∷ [])) (omega (arith, length_more))

  drop_more : length word < 8 → drop 8 (word ++ (letter ∷ [])) ≡ drop 8 word
  drop_more few =
      drop_of_length-le (word ++ (letter ∷ [])) {i = 8} (omega (arith, length_more)) ∙ sym (drop_of_length-le word {i = 8} (omega arith))

  -- The number of seven letters at most is not changed by the remainder.
  eight_more : lettered word ≡ true → length word < 8
      → number_of (take 8 (word ++ (letter ∷ []))) ≡ 256 * (number_of (take 8 word) % 72057594037927936) + letter
  eight_more proper few =
      let less : number_of word < 72057594037927936 = number_of_below 7 word proper (omega arith) in
      rw (take_more few, take_all 8 word (omega arith), mod-eq_of_lt less) (number_of_more word letter)

-- How a name is kept with a letter more: its first number grows, then its second one, then none.
module _ (word : Letters) (letter : ℕ) where
  first_more : lettered word ≡ true → length word < 8
      → name_kept (word ++ (letter ∷ []))
      ≡ record { first = 256 * ((name_kept word).first % 72057594037927936) + letter; second = (name_kept word).second }
  unfolding name_kept
  first_more proper few = cc (eight_more word letter proper few, drop_more word letter few)

  second_more : lettered word ≡ true → 8 ≤ length word → length word < 16
      → name_kept (word ++ (letter ∷ []))
      ≡ record { first = (name_kept word).first; second = 256 * ((name_kept word).second % 72057594037927936) + letter }
  unfolding name_kept
  second_more proper many few =
      let grown = eight_more (drop 8 word) letter (drop_proper 8 word proper) (simp (length-drop) (omega arith)) in
      cc (grown, take-append-le 8 word (letter ∷ []) many, drop-append-le 8 word (letter ∷ []) many)

  none_more : 16 ≤ length word → name_kept (word ++ (letter ∷ [])) ≡ name_kept word
  unfolding name_kept
  none_more many =
      let more : 8 ≤ length (drop 8 word) = simp (length-drop) (omega arith) in
      let enough : 8 ≤ length word = omega arith in
      rw (take-append-le 8 word, drop-append-le 8 word, take-append-le 8 (drop 8 word))

-- What is told of a word by how it is kept: its length to 17, whether it is a name, and its number if it is short.
module _ (kept : Word) (word : Letters) (is : kept ≡ word_kept word) where
  kept_name : kept.name ≡ name_kept word
  unfolding word_kept
  kept_name = ap (λ (w : Word). w.name) is

  kept_length : kept.length ≡ min (length word) 17
  unfolding word_kept
  kept_length = ap (λ (w : Word). w.length) is

  pub name_told : lettered word ≡ true → within 1 16 kept.length ≡ is_name word
  unfolding is_name within
  name_told proper =
      let count = kept_length in
      let first = leb 1 kept.length in
      let last = leb kept.length 16 in
      alike (first && last) (within 1 16 (length word) && lettered word)
      (λ t.
      let some = leb-true 1 kept.length (and_left first last t) in
      let few = leb-true kept.length 16 (and_right first last t) in
      and_both (and_both (le-leb 1 (length word) (omega arith)) (le-leb (length word) 16 (omega arith))) proper)
      (λ t.
      let inside = and_left (within 1 16 (length word)) (lettered word) t in
      let some = within_low 1 16 (length word) inside in
      let few = within_high 1 16 (length word) inside in
      and_both (le-leb 1 kept.length (omega arith)) (le-leb kept.length 16 (omega arith)))

  pub short_told : kept.length ≤ 8 → kept.name.first ≡ short_number word
  unfolding short_number name_kept
  short_told few =
      let count = kept_length in
      let all : length word ≤ 8 = omega arith in
      rw (kept_name, le-leb (length word) 8 all, take_all 8 word all) refl

  pub long_told : 8 < kept.length → 0 ≡ short_number word
  unfolding short_number
  long_told many =
      let count = kept_length in
      rw (lt-leb (length word) 8 (omega arith)) refl

-- The word that has no letter.
pub kept_none : (kept : Word) → ((kept.name.first ≡ 0) × (kept.name.second ≡ 0)) × (kept.length ≡ 0) → kept ≡ word_kept []
unfolding word_kept name_kept number_of backwards
kept_none kept e =
    let is : record { name = record { first = kept.name.first; second = kept.name.second }; length = kept.length }
    ≡ record { name = record { first = 0; second = 0 }; length = 0 } = rw (e.0.0, e.0.1, e.1) refl in
    is

-- How a word is kept with a letter more, from how it is kept.
module _ (kept : Word) (word : Letters) (letter : ℕ) (is : kept ≡ word_kept word) where
  -- By the name and the count of letters.
  word_kept_more : (name : Name) (count : ℕ) → name ≡ name_kept (word ++ (letter ∷ [])) → count ≡ min (length word + 1) 17
      → record { name = name; length = count } ≡ word_kept (word ++ (letter ∷ []))
  unfolding word_kept
  word_kept_more name count n c = cc (length_more word letter)

  pub word_first_more : lettered word ≡ true → kept.length < 8 → (number : ℕ)
      → number ≡ 256 * (kept.name.first % 72057594037927936) + letter
      → record { name = record { first = number; second = kept.name.second }; length = kept.length + 1 }
      ≡ word_kept (word ++ (letter ∷ []))
  word_first_more proper few number e =
      let count = kept_length kept word is in
      let grown = first_more word letter proper (omega arith) in
      word_kept_more (record { first = number; second = kept.name.second }) (kept.length + 1) (cc (kept_name kept word is)) (omega arith)

  pub word_second_more : lettered word ≡ true → 8 ≤ kept.length → kept.length < 16 → (number : ℕ)
      → number ≡ 256 * (kept.name.second % 72057594037927936) + letter
      → record { name = record { first = kept.name.first; second = number }; length = kept.length + 1 }
      ≡ word_kept (word ++ (letter ∷ []))
  word_second_more proper many few number e =
      let count = kept_length kept word is in
      let grown = second_more word letter proper (omega arith) (omega arith) in
      word_kept_more (record { first = kept.name.first; second = number }) (kept.length + 1) (cc (kept_name kept word is)) (omega arith)

  pub word_none_more : 16 ≤ kept.length → record { name = kept.name; length = 17 } ≡ word_kept (word ++ (letter ∷ []))
  word_none_more many =
      let count = kept_length kept word is in
      let grown = none_more word letter (omega arith) in
      word_kept_more kept.name 17 (cc (kept_name kept word is)) (omega arith)
