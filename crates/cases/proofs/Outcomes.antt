-- What each outcome of a search says of U and L, which outcome they give, and whether the search goes on.
-- Assumes nothing.
use Prim.Native.Nat.{ℕ, zero, suc, ◌+◌, ◌*◌, ◌-◌, ◌≤◌, ◌<◌}
use mathlib.Core.List.{List}
use mathlib.Core.Path.{◌≡◌, refl, sym, subst}
use native.Mathlib.Nat.{not-suc-le-zero}
use native.Mathlib.Numerals.{add-one}
use native.Mathlib.Omega.{arith}
use lib.Dec.{eqb, leb}
use borrow.Author.Tests.{eqb-true, eqb-false, leb-true, leb-false, eq-eqb, ne_eqb, le-leb, lt-leb}
use borrow.Table.Steps.{cases}
use Rattle.excitation.specs.declared.Excitation.{Excitation}
use Rattle.cases.specs.Case.{Case}
use Rattle.cases.specs.Search.{State, SearchEnd, greatest_upper, outcome_of, outcome_at, split, search_from}
use Rattle.operation.specs.declared.Outcome.{Outcome}
use Rattle.operation.specs.declared.Outcome.TheVariants.{Exact, Within, Spent}

module _ (ratio upper lower : ℕ) where
  abbrev said : Outcome
  said = outcome_of ratio upper lower

  pub is_exact : upper ≡ lower → said ≡ Exact
  unfolding outcome_of
  is_exact e = rw (eq-eqb upper lower e) refl

  pub is_within : (upper ≡ lower → ⊥) → 1000 * upper ≤ ratio * lower → said ≡ Within
  unfolding outcome_of
  is_within n h = rw (ne_eqb upper lower n, le-leb (1000 * upper) (ratio * lower) h) refl

  pub is_spent : (upper ≡ lower → ⊥) → ratio * lower < 1000 * upper → said ≡ Spent
  unfolding outcome_of
  is_spent n h = rw (ne_eqb upper lower n, lt-leb (1000 * upper) (ratio * lower) h) refl

  -- What each outcome says.
  abbrev pub Says : Outcome → Type 0
  Says Exact = upper ≡ lower
  Says Within = (upper ≡ lower → ⊥) × (1000 * upper ≤ ratio * lower)
  Says Spent = (upper ≡ lower → ⊥) × (ratio * lower < 1000 * upper)

  pub says : Says said
  says =
      cases (eqb upper lower)
      (λ e. let same = eqb-true upper lower e in subst Says (sym (is_exact same)) same)
      (λ e. let apart = eqb-false upper lower e in
      cases (leb (1000 * upper) (ratio * lower))
      (λ b. let h = leb-true (1000 * upper) (ratio * lower) b in subst Says (sym (is_within apart h)) (apart, h))
      (λ b. let h = leb-false (1000 * upper) (ratio * lower) b in subst Says (sym (is_spent apart h)) (apart, h)))

-- A search ends where it is exact or within, or where it is neither and no split is left; else it goes on with one split.
module _ (simulated : List Excitation → ℕ) (bound choose : Case → ℕ) (ratio : ℕ) (state : State) where
  abbrev from : ℕ → ℕ → SearchEnd
  from left splits = search_from simulated bound choose ratio left splits state

  abbrev here : Outcome → ℕ → SearchEnd
  here outcome splits = record { outcome = outcome; splits = splits; state = state }

  abbrev upper : ℕ
  upper = greatest_upper state.cases

  abbrev lower : ℕ
  lower = state.best.lower

  pub stop_exact : (left splits : ℕ) → upper ≡ lower → from left splits ≡ here Exact splits
  unfolding search_from outcome_at
  stop_exact zero splits e = rw (is_exact ratio upper lower e) refl
  stop_exact (suc left) splits e = rw (is_exact ratio upper lower e, search_from) refl

  pub stop_within : (left splits : ℕ) → (upper ≡ lower → ⊥)
      → 1000 * upper ≤ ratio * lower → from left splits ≡ here Within splits
  unfolding search_from outcome_at
  stop_within zero splits d l = rw (is_within ratio upper lower d l) refl
  stop_within (suc left) splits d l = rw (is_within ratio upper lower d l, search_from) refl

  pub stop_spent : (left splits : ℕ) → left ≡ 0 → (upper ≡ lower → ⊥)
      → ratio * lower < 1000 * upper → from left splits ≡ here Spent splits
  unfolding search_from outcome_at
  stop_spent zero splits z d l = rw (is_spent ratio upper lower d l) refl
  stop_spent (suc left) splits z d l = absurd (omega arith)

  pub goes_on : (left splits : ℕ) → 1 ≤ left → (upper ≡ lower → ⊥)
      → ratio * lower < 1000 * upper
      → search_from simulated bound choose ratio (left - 1) (splits + 1) (split simulated bound choose state) ≡ from left splits
  unfolding search_from outcome_at
  goes_on zero splits some d l = absurd (not-suc-le-zero some)
  goes_on (suc left) splits some d l =
      let e : suc left - 1 ≡ left = omega arith in
      let step : from (suc left) splits ≡ search_from simulated bound choose ratio left (suc splits) (split simulated bound choose state) =
      rw (is_spent ratio upper lower d l, search_from) refl in
      rw (e, add-one) (sym step)
