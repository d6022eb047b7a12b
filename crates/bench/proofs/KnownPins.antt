-- Laws of the pins of a gate that are known, one after the other.
-- Assumes nothing.
use Prim.Native.Nat.{ℕ, ◌+◌, ◌<◌}
use mathlib.Core.Bool.{Bool, true, false, ◌&&◌}
use mathlib.Core.List.{List, [], ◌++◌, map}
use mathlib.Core.Path.{◌≡◌, refl, sym, ap, ◌∙◌}
use native.Mathlib.Omega.{arith}
use lib.ListN.{length, get_or, drop}
use Rattle.std.proofs.lemmas.List.{length-map}
use Rattle.netlist.specs.Names.{Letters, are_names, known, all_known}
use Rattle.netlist.specs.Forms.{Form, names_of}
use Rattle.netlist.specs.Kept.{name_kept}
use Rattle.netlist.specs.declared.Name.{Name}
use Rattle.netlist.proofs.KnownWords.{name_at}
use Rattle.bench.specs.Held.{Held, all_right, KnownIn, AllKnownIn}
use Rattle.bench.proofs.Pins.{kept_at_lem, known_at, known_end}

module _ (forms : List Form) (kept : List Name) (pins : List Name) where
  -- The first p pins are known, so that the others decide.
  abbrev pub KnownBelow : ℕ → Type 0
  KnownBelow p =
      (names words : List Letters) → Held names kept → all_right forms ≡ true → are_names words ≡ true → pins ≡ map name_kept words
      → all_known words (names ++ names_of forms) ≡ all_known (drop p words) (names ++ names_of forms)

  pub known_below_none : KnownBelow 0
  known_below_none names words held right proper is = refl

  module _ (p : ℕ) (d : Name) {b : Bool} (h : p < length pins) (here : KnownIn forms kept (get_or pins p d) b)
      (below : KnownBelow p) where
    pin_at : (names words : List Letters) → Held names kept → all_right forms ≡ true → are_names words ≡ true → pins ≡ map name_kept words
        → all_known words (names ++ names_of forms) ≡ (b && all_known (drop (p + 1) words) (names ++ names_of forms))
    pin_at names words held right proper is =
        let inside : p < length words = omega (arith, ap length is, length-map words name_kept) in
        let told : b ≡ known (get_or words p []) (names ++ names_of forms) =
        here names (get_or words p []) held right (name_at words proper p inside)
        (ap (λ pins. get_or pins p d) is ∙ kept_at_lem words d p inside) in
        below names words held right proper is ∙ known_at words (names ++ names_of forms) p inside
        ∙ ap (λ x. x && all_known (drop (p + 1) words) (names ++ names_of forms)) (sym told)

    pub pin_unknown : b ≡ false → AllKnownIn forms kept pins false
    pin_unknown e names words held right proper is =
        sym (pin_at names words held right proper is ∙ ap (λ x. x && all_known (drop (p + 1) words) (names ++ names_of forms)) e)

    pub known_below_next : b ≡ true → KnownBelow (p + 1)
    known_below_next e names words held right proper is =
        pin_at names words held right proper is ∙ ap (λ x. x && all_known (drop (p + 1) words) (names ++ names_of forms)) e

  pub all_pins_known : KnownBelow (length pins) → AllKnownIn forms kept pins true
  all_pins_known below names words held right proper is =
      let whole = ap length is ∙ length-map words name_kept in
      sym (below names words held right proper is ∙ known_end words (names ++ names_of forms) (length pins) (omega arith))
