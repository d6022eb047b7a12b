-- Laws of the cases in the store: which of them a split leaves and puts there, which patterns they cover, and the case to split.
-- Assumes nothing.
use Prim.Native.Nat.{ℕ, zero, suc, ◌≤◌, ◌<◌}
use mathlib.Core.List.Memᴰ
use mathlib.Core.List.{List, [], ◌∷◌, Memᴰ}
use mathlib.Core.Logic.{◌⊎◌, inl, inr, ⊎_elim}
use mathlib.Core.Path.{◌≡◌, refl, sym, subst}
use native.Mathlib.Omega.{arith}
use lib.ListN.{length, get_or, set}
use Rattle.laws.proofs.Below.{max_at, argmax_inside, argmax_is}
use Rattle.excitation.specs.declared.Excitation.{Excitation}
use Rattle.block.specs.Block.{Choice}
use Rattle.cases.specs.Search.{StoredCase, no_case, upper_at, sets_at, greatest_upper, next_split, placed}
use Rattle.cases.specs.Promise.{Covered}

-- Members of a list, by their numbers

module _ {A : Type 0} where
  pub member_at : (xs : List A) (k : ℕ) (d : A) → k < length xs → Memᴰ (get_or xs k d) xs
  member_at [] k d h = absurd (omega arith)
  member_at (x ∷ rest) zero d h = Memᴰ.head refl
  member_at (x ∷ rest) (suc k) d h = Memᴰ.tail (member_at rest k d (omega arith))

  pub number_of : {x : A} {xs : List A} (d : A) → Memᴰ x xs → (k : ℕ) × (k < length xs) × (get_or xs k d ≡ x)
  number_of {xs = []} d m = elim m [ ]
  number_of {xs = y ∷ rest} d (Memᴰ.head e) = (0, omega arith, sym e)
  number_of {xs = y ∷ rest} d (Memᴰ.tail m) = let n = number_of d m in (suc n.0, omega (arith, n.1), n.2)

  set_from_lem : (xs : List A) (k : ℕ) (y : A) {x : A} → Memᴰ x (set xs k y) → (x ≡ y) ⊎ Memᴰ x xs
  set_from_lem [] k y m = inr m
  set_from_lem (z ∷ rest) zero y (Memᴰ.head e) = inl e
  set_from_lem (z ∷ rest) zero y (Memᴰ.tail m) = inr (Memᴰ.tail m)
  set_from_lem (z ∷ rest) (suc k) y (Memᴰ.head e) = inr (Memᴰ.head e)
  set_from_lem (z ∷ rest) (suc k) y (Memᴰ.tail m) = ⊎_elim inl (λ n. inr (Memᴰ.tail n)) (set_from_lem rest k y m)

  set_new : (xs : List A) (k : ℕ) (y : A) → k < length xs → Memᴰ y (set xs k y)
  set_new [] k y h = absurd (omega arith)
  set_new (z ∷ rest) zero y h = Memᴰ.head refl
  set_new (z ∷ rest) (suc k) y h = Memᴰ.tail (set_new rest k y (omega arith))

  set_kept : (xs : List A) (k : ℕ) (y d : A) {x : A} → Memᴰ x xs → Memᴰ x (set xs k y) ⊎ (x ≡ get_or xs k d)
  set_kept [] k y d m = elim m [ ]
  set_kept (z ∷ rest) zero y d (Memᴰ.head e) = inr e
  set_kept (z ∷ rest) zero y d (Memᴰ.tail m) = inl (Memᴰ.tail m)
  set_kept (z ∷ rest) (suc k) y d (Memᴰ.head e) = inl (Memᴰ.head e)
  set_kept (z ∷ rest) (suc k) y d (Memᴰ.tail m) = ⊎_elim (λ n. inl (Memᴰ.tail n)) inr (set_kept rest k y d m)

-- Children in their places: each case is one of them or was there before; each of them is there, and each that was there before but
-- the parent.

pub placed_from : (k : ℕ) (new cases : List StoredCase) {x : StoredCase} → Memᴰ x (placed k new cases)
    → Memᴰ x new ⊎ Memᴰ x cases
unfolding placed
placed_from k [] cases m = inr m
placed_from k (y ∷ rest) cases m =
    ⊎_elim (λ first. ⊎_elim (λ e. inl (Memᴰ.head e)) inr (set_from_lem cases k y first)) (λ n. inl (Memᴰ.tail n))
    (Memᴰ.append_cases (set cases k y) m)

pub placed_new : (k : ℕ) (new cases : List StoredCase) {x : StoredCase} → k < length cases → Memᴰ x new
    → Memᴰ x (placed k new cases)
unfolding placed
placed_new k [] cases h m = absurd (Memᴰ.not-nil m)
placed_new k (y ∷ rest) cases h (Memᴰ.head e) =
    Memᴰ.append_left rest (subst (λ z. Memᴰ z (set cases k y)) (sym e) (set_new cases k y h))
placed_new k (y ∷ rest) cases h (Memᴰ.tail m) = Memᴰ.append_right (set cases k y) m

pub placed_kept : (k : ℕ) (new cases : List StoredCase) {x : StoredCase} → Memᴰ x cases
    → Memᴰ x (placed k new cases) ⊎ (x ≡ get_or cases k no_case)
unfolding placed
placed_kept k [] cases m = inl m
placed_kept k (y ∷ rest) cases m = ⊎_elim (λ n. inl (Memᴰ.append_left rest n)) inr (set_kept cases k y no_case m)

-- Covered patterns

pub covered_by : (pattern : List Excitation) (cases : List StoredCase) (x : StoredCase) → Memᴰ x cases → Choice pattern x.sets
    → Covered pattern cases
unfolding sets_at
covered_by pattern cases x m choice =
    let n = number_of no_case m in
    record { number = n.0; inside = n.1; choice = subst (λ x. Choice pattern x.sets) (sym n.2) choice }

pub covering : (pattern : List Excitation) (cases : List StoredCase) → Covered pattern cases
    → (x : StoredCase) × Memᴰ x cases × Choice pattern x.sets
unfolding sets_at
covering pattern cases covered = (get_or cases covered.number no_case, member_at cases covered.number no_case covered.inside, covered.choice)

-- The greatest upper number, and the case to split

pub upper_below : (cases : List StoredCase) {x : StoredCase} → Memᴰ x cases → x.upper ≤ greatest_upper cases
unfolding greatest_upper upper_at
upper_below cases m =
    let n = number_of no_case m in
    subst (λ x. x.upper ≤ greatest_upper cases) n.2 (max_at (length cases) (upper_at cases) n.0 n.1)

pub next_inside : (cases : List StoredCase) → 1 ≤ length cases → next_split cases < length cases
unfolding next_split
next_inside cases h = argmax_inside (length cases) (upper_at cases) h

pub next_upper : (cases : List StoredCase) → 1 ≤ length cases → (get_or cases (next_split cases) no_case).upper ≡ greatest_upper cases
unfolding next_split greatest_upper upper_at
next_upper cases h = argmax_is (length cases) (upper_at cases) h

pub next_member : (cases : List StoredCase) → 1 ≤ length cases → Memᴰ (get_or cases (next_split cases) no_case) cases
next_member cases h = member_at cases (next_split cases) no_case (next_inside cases h)
