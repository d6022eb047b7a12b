-- Laws of names looked up among those that are held.
-- Assumes nothing.
use Prim.Native.Nat.{ℕ, ◌<◌}
use mathlib.Core.Bool.{Bool, true, false, cond}
use mathlib.Core.List.{List, [], ◌∷◌, map}
use mathlib.Core.Path.{◌≡◌, refl, ap, ◌∙◌}
use native.Mathlib.Numerals.{one-add}
use lib.Dec.{ltb}
use lib.ListN.{length, get_or, length-map}
use borrow.Author.Tests.{lt-ltb, ltb-true}
use borrow.Table.Steps.{cases}
use Rattle.std.proofs.Common.{Option, Some, None}
use Rattle.std.specs.Prelude.{is_some, IfSome}
use Rattle.std.specs.List.{position_or_len}
use Rattle.laws.proofs.Tests.{and_left, and_right}
use Rattle.netlist.specs.Names.{Letters, is_name, are_names, same, known, position}
use Rattle.netlist.specs.Kept.{name_kept, same_name}
use Rattle.netlist.specs.declared.Name.{Name}
use Rattle.netlist.proofs.Packing.{kept_same}
use Rattle.netlist.proofs.KnownWords.{same_turned, known_by_position}
use Rattle.bench.specs.Records.{pin_net}
use Rattle.bench.specs.Held.{Held}

-- A name looked up: where it stands among the held ones, if it does.
pub record Placed (kept : List Name) (name : Name) (r : Option ℕ) : Type 0 where
  pub inside : IfSome r (λ place. place < length kept)
  pub is : (names : List Letters) (word : Letters) → Held names kept → is_name word ≡ true → name ≡ name_kept word
      → r ≡ cond (known word names) (Some (position word names)) None

-- The first name that is kept as the word is.
module _ (word : Letters) (proper : is_name word ≡ true) where
  same_as : Name → Bool
  same_as held = same_name held (name_kept word)

  place_kept : (names : List Letters) → are_names names ≡ true → position_or_len same_as (map name_kept names) ≡ position word names
  unfolding position are_names same_as
  place_kept [] all = refl
  place_kept (first ∷ rest) all =
      let named = and_left (is_name first) (are_names rest) all in
      let later = place_kept rest (and_right (is_name first) (are_names rest) all) in
      let test : same_name (name_kept first) (name_kept word) ≡ same word first =
      kept_same first word named proper ∙ same_turned first word in
      cases (same word first) (λ t. rw (test, t) refl) (λ t. rw (test, t, later) (rw one-add refl))

  place_told : (names : List Letters) (kept : List Name) → Held names kept
      → cond (ltb (position_or_len same_as kept) (length kept)) (Some (position_or_len same_as kept)) None
      ≡ cond (known word names) (Some (position word names)) None
  place_told names kept held = rw (held.is, place_kept names held.proper, length-map, known_by_position word names) refl

-- What the search for a name comes to.

inside_some : (place size : ℕ) → IfSome (cond (ltb place size) (Some place) None) (λ p. p < size)
inside_some place size = cases (ltb place size) (λ t. rw t (ltb-true place size t)) (λ t. rw t tt)

pub placed : (kept : List Name) (name : Name) (r : Option ℕ)
    → r ≡ cond (ltb (position_or_len (λ held. same_name held name) kept) (length kept)) (Some (position_or_len (λ held. same_name held name) kept)) None
    → Placed kept name r
unfolding same_as
placed kept name r e = record {
  inside = rw e (inside_some (position_or_len (λ held. same_name held name) kept) (length kept));
  is = λ names word held proper named. rw (e, named) (place_told word proper names kept held);
}

-- A word is known where it has a place.

some_told : {A : Type 0} (b : Bool) (x : A) → is_some (cond b (Some x) None) ≡ b
some_told true x = refl
some_told false x = refl

pub known_by_place : {kept : List Name} {name : Name} {place : Option ℕ} → Placed kept name place
    → (names : List Letters) (word : Letters) → Held names kept → is_name word ≡ true → name ≡ name_kept word
    → is_some place ≡ known word names
known_by_place placed names word held proper named =
    ap is_some (placed.is names word held proper named) ∙ some_told (known word names) (position word names)

-- The net of a pin that is used.
pub pin_net_lem : (names pins : List Letters) (p : ℕ) → p < length pins → pin_net names pins p ≡ position (get_or pins p []) names
unfolding pin_net
pin_net_lem names pins p h = rw (lt-ltb p (length pins) h) refl
