-- Where the children of a split go: the first to the parent's place, each other past the cases. One child more in the store.
-- Assumes nothing.
use Prim.Native.Nat.{ℕ, ◌+◌, ◌*◌, ◌≤◌, ◌<◌, max}
use mathlib.Core.List.{List, [], ◌∷◌, ◌++◌, map, append-nil, append_assoc, map-append}
use mathlib.Core.Logic.{inr}
use mathlib.Core.Path.{◌≡◌, refl, ap, sym, ◌∙◌}
use native.Mathlib.Omega.{arith}
use lib.ListN.{length, set}
use Rattle.laws.specs.Rewritten.{Rewritten}
use Rattle.block.specs.Limits.{drop_limit}
use Rattle.cases.specs.Case.{Case}
use Rattle.cases.specs.Records.{cases_in, record_byte, SetCodes, HasCases}
use Rattle.cases.specs.Search.{StoredCase, placed}
use Rattle.cases.proofs.Records.{case_of, cases_replaced, cases_appended, has_replaced, has_appended}
use Rattle.search.proofs.Stored.{CasesStored}

-- Where the next child goes, and how many cases there are, once these children of the excitations below e are made, of a case in place
-- k of n: the first goes to the parent's place, each other past the cases.
unfoldable pub Places : ℕ → ℕ → ℕ → List Case → ℕ → ℕ → Type 0
Places k n e [] count next = (count ≡ n) × (next ≡ k)
Places k n e (case ∷ new) count next = (next ≡ count) × (n ≤ count) × (count + 1 ≤ n + e)

module _ (k n e count next : ℕ) (inside : k < n) where
  pub places_more : (new : List Case) → Places k n e new count next → n ≤ count
  unfolding Places
  places_more [] p = omega arith
  places_more (case ∷ new) p = p.1

  pub places_few : (new : List Case) → e ≤ 4 → Places k n e new count next → count ≤ n + 3
  unfolding Places
  places_few [] h p = omega arith
  places_few (case ∷ new) h p = omega (arith, p.2)

  pub places_next : (new : List Case) → e < 4 → Places k n e new count next → next + 1 ≤ n + 3
  unfolding Places
  places_next [] h p = omega (arith, p.1)
  places_next (case ∷ new) h p = omega (arith, p.0, p.2)

  pub places_skip : (new : List Case) → Places k n e new count next → Places k n (e + 1) new count next
  unfolding Places
  places_skip [] p = p
  places_skip (case ∷ new) p = (p.0, p.1, omega (arith, p.2))

  pub places_add : (new : List Case) (case : Case) → Places k n e new count next
      → Places k n (e + 1) (new ++ (case ∷ [])) (max (next + 1) count) (max (next + 1) count)
  unfolding Places
  places_add [] case p = (refl, omega (arith, p.0, p.1), omega (arith, p.0, p.1))
  places_add (x ∷ new) case p = (refl, omega (arith, p.1), omega (arith, p.0, p.2))

-- One child more in the store.

module _ {inputs : ℕ} (few : inputs ≤ 64) {codes : List ℕ} (long : length codes ≡ 64) (coded : SetCodes inputs codes) {upper : ℕ} (low : upper < drop_limit)
    {store after : List ℕ} (next : ℕ) (written : Rewritten (record_byte codes upper) (72 * next) 72 store after)
    (make : Case → StoredCase) (child : Case) (is : case_of inputs codes upper ≡ make child)
    (k n e count : ℕ) (inside : k < n) (turn : e < 4) (numbered : n + 3 ≤ 30001) (given : List ℕ) (room : 72 * (n + 3) ≤ length given)
    (xs : List StoredCase) where
  stored_is : (new : List Case) → Places k n e new count next → cases_in inputs store count ≡ placed k (map make new) xs
      → cases_in inputs after (max (next + 1) count) ≡ placed k (map make (new ++ (child ∷ []))) xs
  unfolding Places placed
  stored_is [] p held =
      let m : max (next + 1) count ≡ count = omega (arith, p.0, p.1) in
      let stored = case_of inputs codes upper in
      ap (cases_in inputs after) m
      ∙ cases_replaced inputs few codes long upper next store after written count low (omega (arith, p.0, p.1))
      ∙ ap (λ cases. set cases next stored) held
      ∙ ap (λ j. set xs j stored) p.1
      ∙ ap (set xs k) is
      ∙ sym (append-nil (set xs k (make child)))
  stored_is (x ∷ new) p held =
      let m : max (next + 1) count ≡ count + 1 = omega (arith, p.0) in
      let stored = case_of inputs codes upper in
      let first = set xs k (make x) in
      ap (cases_in inputs after) m
      ∙ cases_appended inputs few codes long upper next store after written count low p.0
      ∙ ap (λ cases. cases ++ (stored ∷ [])) held
      ∙ ap (λ case. (first ++ map make new) ++ (case ∷ [])) is
      ∙ append_assoc first (map make new) (make child ∷ [])
      ∙ ap (λ cases. first ++ cases) (sym (map-append make new (child ∷ [])))

  stored_has : (new : List Case) → Places k n e new count next → length store ≡ length given → HasCases inputs store count
      → HasCases inputs after (max (next + 1) count)
  unfolding Places
  stored_has [] p same has =
      let m : max (next + 1) count ≡ count = omega (arith, p.0, p.1) in
      rw m (has_replaced inputs few codes long upper next store after written count coded low has)
  stored_has (x ∷ new) p same has =
      let m : max (next + 1) count ≡ count + 1 = omega (arith, p.0) in
      rw m
      (has_appended inputs few codes long upper next store after written count coded low has p.0
      (omega (arith, p.2)) (omega (arith, p.2)))

  pub stored_next : (new : List Case) → Places k n e new count next → CasesStored inputs given (placed k (map make new) xs) count store
      → CasesStored inputs given (placed k (map make (new ++ (child ∷ []))) xs) (max (next + 1) count) after
  stored_next new p now = record {
    is = stored_is new p now.is;
    has = stored_has new p now.long now.has;
    long = written.long ∙ now.long;
    past = λ j h. written.rest j (inr (omega arith)) ∙ now.past j (omega arith);
  }
