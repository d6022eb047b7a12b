-- Laws of the names held: one name more.
-- Assumes nothing.
use mathlib.Core.Bool.{true}
use mathlib.Core.List.{List, [], ◌∷◌, ◌++◌}
use mathlib.Core.Path.{◌≡◌, refl, sym, ap, ◌∙◌}
use Rattle.laws.proofs.Tests.{and_both}
use Rattle.std.proofs.lemmas.List.{map-append}
use Rattle.netlist.specs.Names.{Letters, is_name, are_names}
use Rattle.netlist.specs.Kept.{name_kept}
use Rattle.netlist.specs.declared.Name.{Name}
use Rattle.netlist.proofs.KnownWords.{names_append}
use Rattle.bench.specs.Held.{Held}

pub held_next : (names : List Letters) (name : Letters) (kept : List Name) → is_name name ≡ true → Held names kept
    → Held (names ++ (name ∷ [])) (kept ++ (name_kept name ∷ []))
unfolding are_names
held_next names name kept proper held = record {
  proper = names_append names (name ∷ []) ∙ and_both held.proper (and_both proper refl);
  is = ap (λ l. l ++ (name_kept name ∷ [])) held.is ∙ sym (map-append name_kept names (name ∷ []));
}
