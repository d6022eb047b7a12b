-- Laws of pins looked up among the names that are held.
-- Assumes nothing.
use Prim.Native.Nat.{ℕ, zero, suc, ◌+◌, ◌≤◌, ◌<◌}
use mathlib.Core.Bool.{Bool, true, false, cond, ◌&&◌}
use mathlib.Core.List.{List, [], ◌∷◌, map}
use mathlib.Core.Path.{◌≡◌, refl, sym, ap, ◌∙◌}
use native.Mathlib.Numerals.{add-one}
use native.Mathlib.Omega.{arith}
use lib.Dec.{ltb}
use lib.ListN.{length, get_or, set, drop, replicate, length-set, get_or-map, drop_of_length-le}
use lib.Seq.{get_or-set_same, get_or-set_other, ext_get_or, drop-cons}
use borrow.Author.Tests.{ltb-true, ltb-false, lt-ltb, le-ltb}
use Rattle.std.proofs.lemmas.List.{length-map}
use borrow.Table.Steps.{cases}
use Rattle.std.proofs.Common.{Option, Some, None}
use Rattle.laws.proofs.Numbers.{of_each}
use Rattle.laws.proofs.Lists.{get_d_any, replicate_at}
use Rattle.netlist.specs.Names.{Letters, are_names, known, all_known, position}
use Rattle.netlist.specs.Kept.{name_kept}
use Rattle.netlist.specs.declared.Name.{Name}
use Rattle.netlist.proofs.KnownWords.{name_at}
use Rattle.bench.specs.Records.{pin_net}
use Rattle.bench.proofs.Lookups.{Placed}
use Rattle.bench.specs.Held.{Held, PinsPlaced, four_nets}

-- Four values, each in its place.
pub four_at_lem : {A : Type 0} (f : ℕ → A) (d : A) (p : ℕ) → p < 4 → get_or (f 0 ∷ f 1 ∷ f 2 ∷ f 3 ∷ []) p d ≡ f p
four_at_lem f d zero h = refl
four_at_lem f d (suc zero) h = refl
four_at_lem f d (suc (suc zero)) h = refl
four_at_lem f d (suc (suc (suc zero))) h = refl
four_at_lem f d (suc (suc (suc (suc p)))) h = absurd (omega arith)

-- The name of a pin that is used, as it is kept.
pub kept_at_lem : (pins : List Letters) (d : Name) (p : ℕ) → p < length pins → get_or (map name_kept pins) p d ≡ name_kept (get_or pins p [])
kept_at_lem pins d p h = get_d_any (map name_kept pins) p d (name_kept []) (omega (arith, length-map pins name_kept)) ∙ get_or-map name_kept pins p []

-- All words from the p-th on are known where that one is and those after it are.
pub known_at : (words given : List Letters) (p : ℕ) → p < length words
    → all_known (drop p words) given ≡ (known (get_or words p []) given && all_known (drop (p + 1) words) given)
unfolding all_known
known_at words given p h = rw (drop-cons words p [] h, add-one p) refl

pub known_end : (words given : List Letters) (p : ℕ) → length words ≤ p → all_known (drop p words) given ≡ true
unfolding all_known
known_end words given p h = let none : drop p words ≡ [] = drop_of_length-le words {i = p} h in rw none refl

-- A number other than p is below p + 1 where it is below p.
below_next : (q p : ℕ) → (q ≡ p → ⊥) → ltb q p ≡ ltb q (p + 1)
below_next q p other =
    cases (ltb q p)
    (λ t. t ∙ sym (lt-ltb q (p + 1) (omega (arith, ltb-true q p t))))
    (λ t. t ∙ sym (le-ltb q (p + 1) (omega (arith, ltb-false q p t))))

-- What is told by a value that a test decides.

pub told_some : {A : Type 0} {n m : A} (b : Bool) → Some n ≡ cond b (Some m) None → (b ≡ true) × (n ≡ m)
told_some true e = (refl, cc)
told_some false e = cc

pub told_none : {A : Type 0} (m : A) (b : Bool) → None ≡ cond b (Some m) None → b ≡ false
told_none m true e = cc
told_none m false e = refl

module _ (kept : List Name) (pins : List Name) where
  -- The first p pins were looked up, and are known, so that the others decide. Their nets are still 0.
  pub record PinsPassed (nets : List ℕ) (p : ℕ) : Type 0 where
    pub long : length nets ≡ 4
    pub known_so_far : (names words : List Letters) → Held names kept → are_names words ≡ true → pins ≡ map name_kept words
        → all_known words names ≡ all_known (drop p words) names
    pub is : (names words : List Letters) → Held names kept → are_names words ≡ true → pins ≡ map name_kept words
        → (q : ℕ) → get_or nets q 0 ≡ cond (ltb q p) (position (get_or words q []) names) 0

  pub pins_none : PinsPassed (replicate 4 0) 0
  pins_none = record {
    long = refl;
    known_so_far = λ names words held proper same. refl;
    is = λ names words held proper same q. replicate_at 4 q 0 ∙ rw (le-ltb q 0 (omega arith)) refl;
  }

  module _ (few : length pins ≤ 4) (nets : List ℕ) (p : ℕ) (h : p < length pins) (d : Name) {r : Option ℕ}
      (place : Placed kept (get_or pins p d) r) (w : PinsPassed nets p) where
    -- What the lookup of pin p says.
    pin_at : (names words : List Letters) → Held names kept → are_names words ≡ true → pins ≡ map name_kept words
        → (r ≡ cond (known (get_or words p []) names) (Some (position (get_or words p []) names)) None)
        × (all_known words names ≡ (known (get_or words p []) names && all_known (drop (p + 1) words) names))
    pin_at names words held proper same =
        let used_pin : p < length words = omega (arith, ap length same, length-map words name_kept) in
        let name = ap (λ pins. get_or pins p d) same ∙ kept_at_lem words d p used_pin in (
          place.is names (get_or words p []) held (name_at words proper p used_pin) name,
          w.known_so_far names words held proper same ∙ known_at words names p used_pin,
        )

    pub pins_unknown : r ≡ None → PinsPlaced kept pins None
    pins_unknown e names words held proper same =
        let told = pin_at names words held proper same in
        let unknown = told_none (position (get_or words p []) names) (known (get_or words p []) names) (sym e ∙ told.0) in
        rw (told.1, unknown) refl

    pub pins_next : (net : ℕ) → r ≡ Some net → PinsPassed (set nets p net) (p + 1)
    pins_next net e = record {
      long = length-set nets p net ∙ w.long;
      known_so_far = λ names words held proper same.
          let told = pin_at names words held proper same in
          let found = told_some (known (get_or words p []) names) (sym e ∙ told.0) in
          told.1 ∙ ap (λ b. b && all_known (drop (p + 1) words) names) found.0;
      is = λ names words held proper same. of_each
          (λ q. get_or (set nets p net) q 0 ≡ cond (ltb q (p + 1)) (position (get_or words q []) names) 0)
          p
          (let told = pin_at names words held proper same in
          let found = told_some (known (get_or words p []) names) (sym e ∙ told.0) in
          get_or-set_same nets p net 0 (omega (arith, w.long)) ∙ found.1 ∙ rw (lt-ltb p (p + 1) (omega arith)) refl)
          (λ q other. get_or-set_other nets p q net 0 other
          ∙ w.is names words held proper same q
          ∙ ap (λ b. cond b (position (get_or words q []) names) 0) (below_next q p other));
    }

  pub pins_placed : (nets : List ℕ) → PinsPassed nets (length pins) → PinsPlaced kept pins (Some nets)
  unfolding four_nets pin_net
  pins_placed nets w names words held proper same =
      let whole : length pins ≡ length words = ap length same ∙ length-map words name_kept in
      let each = w.is names words held proper same in
      let are : nets ≡ four_nets names words =
      ext_get_or 0 nets (four_nets names words) w.long
      (λ q h. each q ∙ ap (λ n. cond (ltb q n) (position (get_or words q []) names) 0) whole
      ∙ sym (four_at_lem (pin_net names words) 0 q (rw w.long at h))) in
      let all = w.known_so_far names words held proper same ∙ known_end words names (length pins) (omega arith) in
      rw (all, are) refl
