-- Laws of lists whose values are made in turn.
-- Assumes nothing.
use Prim.Native.Nat.{ℕ, zero, suc, ◌+◌, ◌<◌}
use mathlib.Core.Path.{◌≡◌, refl, ap, sym, ◌∙◌}
use mathlib.Core.List.{List, [], ◌∷◌, ◌++◌, map}
use mathlib.Core.Logic.{⊎_elim}
use native.Mathlib.Nat.{not-suc-le-zero, eq-or-lt_of_le, le_of_suc-le-suc}
use native.Mathlib.Numerals.{add-one}
use lib.ListN.{length, get_or, length-append, length-map, get_or-append, get_or-map}
use lib.Seq.{get_or_at, ext_get_or}
use Rattle.laws.specs.Turn.{in_turn, list_below}

module _ {A : Type 0} (make : List A → ℕ → A) where
  pub turn_next : (n : ℕ) → in_turn make (n + 1) ≡ in_turn make n ++ (make (in_turn make n) n ∷ [])
  unfolding in_turn
  turn_next n = rw add-one refl

  turn_length : (n : ℕ) → length (in_turn make n) ≡ n
  unfolding in_turn
  turn_length zero = refl
  turn_length (suc n) = length-append (in_turn make n) (make (in_turn make n) n ∷ []) ∙ rw (turn_length n) (add-one n)

  -- The value of number i, once made, stays.
  pub turn_at : (n i : ℕ) (d : A) → i < n → get_or (in_turn make n) i d ≡ make (in_turn make i) i
  unfolding in_turn
  turn_at zero i d h = absurd (not-suc-le-zero h)
  turn_at (suc n) i d h =
      ⊎_elim (λ (q : i ≡ n). rw q (get_or_at (in_turn make n) (make (in_turn make n) n) [] d n (turn_length n)))
      (λ l. get_or-append (in_turn make n) _ d i (rw turn_length l) ∙ turn_at n i d l)
      (eq-or-lt_of_le (le_of_suc-le-suc h))

-- A list whose values are made in turn is that list.
pub turn_is : {A : Type 0} (make : List A → ℕ → A) (n : ℕ) (d : A) (xs : List A) → length xs ≡ n
    → ((k : ℕ) → k < n → get_or xs k d ≡ make (in_turn make k) k) → xs ≡ in_turn make n
turn_is make n d xs e h =
    ext_get_or d xs (in_turn make n) (e ∙ sym (turn_length make n))
    (λ k l. let m : k < n = rw e at l in h k m ∙ sym (turn_at make n k d m))

-- The list of the values of f below n has each in its place.
pub list_at : {A : Type 0} (n : ℕ) (f : ℕ → A) (k : ℕ) (d : A) → k < n → get_or (list_below n f) k d ≡ f k
unfolding list_below
list_at n f k d h = turn_at (λ made k. f k) n k d h

pub list_long : {A : Type 0} (n : ℕ) (f : ℕ → A) → length (list_below n f) ≡ n
unfolding list_below
list_long n f = turn_length (λ made k. f k) n

pub list_next : {A : Type 0} (n : ℕ) (f : ℕ → A) → list_below (n + 1) f ≡ list_below n f ++ (f n ∷ [])
unfolding list_below
list_next n f = turn_next (λ made k. f k) n

-- A list that has each in its place is that list.
pub list_is : {A : Type 0} (n : ℕ) (f : ℕ → A) (d : A) (xs : List A) → length xs ≡ n → ((k : ℕ) → k < n → get_or xs k d ≡ f k)
    → xs ≡ list_below n f
list_is n f d xs e h =
    ext_get_or d xs (list_below n f) (e ∙ sym (list_long n f))
    (λ k l. let m : k < n = rw e at l in h k m ∙ sym (list_at n f k d m))

-- The values below n alone make the list.
pub list_same : {A : Type 0} (n : ℕ) (f g : ℕ → A) (d : A) → ((k : ℕ) → k < n → f k ≡ g k) → list_below n f ≡ list_below n g
list_same n f g d h = list_is n g d (list_below n f) (list_long n f) (λ k l. list_at n f k d l ∙ h k l)

-- The values of f, each turned into another.
pub list_map : {A B : Type 0} (h : A → B) (n : ℕ) (f : ℕ → A) → map h (list_below n f) ≡ list_below n (λ k. h (f k))
list_map h n f =
    list_is n (λ k. h (f k)) (h (f 0)) (map h (list_below n f)) (length-map (list_below n f) h ∙ list_long n f)
    (λ k l. get_or-map h (list_below n f) k (f 0) ∙ ap h (list_at n f k (f 0) l))
