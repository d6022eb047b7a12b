-- How many patterns a case has, and how many the cases in the store have between them.
-- Assumes nothing.
use Prim.Native.Nat.{ℕ, zero, suc, ◌+◌, ◌*◌, ◌≤◌, ◌<◌}
use mathlib.Core.Bool.{true, false}
use mathlib.Core.List.Forall₂
use mathlib.Core.List.{List, [], ◌∷◌, ◌++◌, map, Memᴰ}
use mathlib.Core.Path.{◌≡◌, refl, sym, ap, ◌∙◌}
use native.Mathlib.Nat.{le_refl, one-mul, zero-mul, suc-mul, mul_left_comm, mul-pos, mul-le-mul}
use native.Mathlib.Omega.{arith}
use lib.Dec.{eqb, leb}
use lib.ListN.{length, get_or, set, length-append, length-map, length-set}
use lib.Seq.{set-get_or}
use borrow.Author.Tests.{ltb-true, leb-true, eqb-true}
use Rattle.excitation.specs.Excitation.{l, excitation_of}
use Rattle.excitation.specs.UncertaintySet.{UncertaintySet, member, ◌∈◌, empty, single, size}
use Rattle.excitation.specs.declared.Excitation.{Excitation}
use Rattle.excitation.proofs.Finite.{for_each, every_at, at_members}
use Rattle.block.specs.Block.{Choice, choice_count}
use Rattle.cases.specs.Case.{Case, undecided, decided, members_below, children_below, children}
use Rattle.cases.specs.Search.{StoredCase, no_case, placed, made_under}
use Rattle.cases.proofs.Cases.{narrowed, some_undecided}

-- Sums over lists

unfoldable pub sum_over : {A : Type 0} → (A → ℕ) → List A → ℕ
sum_over f [] = 0
sum_over f (x ∷ rest) = f x + sum_over f rest

module _ {A : Type 0} (f : A → ℕ) where
  sum_append : (xs ys : List A) → sum_over f (xs ++ ys) ≡ sum_over f xs + sum_over f ys
  unfolding sum_over
  sum_append [] ys = omega arith
  sum_append (x ∷ rest) ys = omega (arith, sum_append rest ys)

  sum_set : (xs : List A) (k : ℕ) (y d : A) → k < length xs → sum_over f (set xs k y) + f (get_or xs k d) ≡ sum_over f xs + f y
  unfolding sum_over
  sum_set [] k y d h = absurd (omega arith)
  sum_set (x ∷ rest) zero y d h = omega arith
  sum_set (x ∷ rest) (suc k) y d h = omega (arith, sum_set rest k y d (omega arith))

  sum_map : {B : Type 0} (g : B → A) (xs : List B) → sum_over f (map g xs) ≡ sum_over (λ x. f (g x)) xs
  unfolding sum_over
  sum_map g [] = refl
  sum_map g (x ∷ rest) = ap (λ n. f (g x) + n) (sum_map g rest)

  sum_constant : (n : ℕ) → ((x : A) → f x ≡ n) → (xs : List A) → sum_over f xs ≡ length xs * n
  unfolding sum_over
  sum_constant n each [] = sym (zero-mul n)
  sum_constant n each (x ∷ rest) = omega (arith, each x, sum_constant n each rest, suc-mul (length rest) n)

  -- Where no summand is 0 the sum is at least the number of summands, and more where one is not 1.

  sum_at_least : (xs : List A) → ((x : A) → Memᴰ x xs → 1 ≤ f x) → length xs ≤ sum_over f xs
  unfolding sum_over
  sum_at_least [] each = le_refl 0
  sum_at_least (x ∷ rest) each = omega (arith, each x (Memᴰ.head refl), sum_at_least rest (λ z m. each z (Memᴰ.tail m)))

  pub sum_more : {y : A} (xs : List A) → ((x : A) → Memᴰ x xs → 1 ≤ f x) → Memᴰ y xs → 2 ≤ f y → length xs < sum_over f xs
  unfolding sum_over
  sum_more {y = y} [] each m h = elim m [ ]
  sum_more (x ∷ rest) each (Memᴰ.head e) h = omega (arith, ap f e, sum_at_least rest (λ z m. each z (Memᴰ.tail m)))
  sum_more (x ∷ rest) each (Memᴰ.tail m) h = omega (arith, each x (Memᴰ.head refl), sum_more rest (λ z m. each z (Memᴰ.tail m)) m h)

-- Sets

size_single : (e : Excitation) → size (single e) ≡ 1
unfolding size
size_single = for_each (λ e. size (single e) ≡ 1) refl refl refl refl

size_some : (s : UncertaintySet) (e : Excitation) → e ∈ s → 1 ≤ size s
unfolding size member
size_some s e m = leb-true 1 (size s) (at_members (λ s e. leb 1 (size s)) refl refl refl refl s e m)

size_undecided : (s : UncertaintySet) → undecided s ≡ true → 2 ≤ size s
unfolding undecided
size_undecided s u = ltb-true 1 (size s) u

members_long : (s : UncertaintySet) → length (members_below 4 s) ≡ size s
unfolding members_below excitation_of member size
members_long s = eqb-true _ _ (every_at (λ s. eqb (length (members_below 4 s)) (size s)) refl s)

-- Cases

-- A case has as many patterns as an input's set has members, times as many as it has once that input is decided.
choices_at : (case : Case) (input : ℕ) (s : UncertaintySet) (e : Excitation) → input < length case
    → choice_count (set case input s) ≡ size s * choice_count (set case input (single e))
unfolding choice_count
choices_at [] input s e h = absurd (omega arith)
choices_at (t ∷ rest) zero s e h =
    let one : size (single e) * choice_count rest ≡ choice_count rest = ap (λ n. n * choice_count rest) (size_single e) ∙ one-mul (choice_count rest) in
    ap (λ n. size s * n) (sym one)
choices_at (t ∷ rest) (suc input) s e h =
    ap (λ n. size t * n) (choices_at rest input s e (omega arith)) ∙ mul_left_comm (size t) (size s) (choice_count (set rest input (single e)))

choices_by : (case : Case) (input : ℕ) (e : Excitation) → input < length case
    → choice_count case ≡ size (get_or case input empty) * choice_count (set case input (single e))
choices_by case input e h = ap choice_count (sym (set-get_or case input empty)) ∙ choices_at case input (get_or case input empty) e h

pub some_choice : {pattern : List Excitation} {case : Case} → Choice pattern case → 1 ≤ choice_count case
unfolding choice_count
some_choice Forall₂.nil = le_refl 1
some_choice (Forall₂.cons {a = e} {b = s} m rest) = mul-pos (size_some s e m) (some_choice rest)

pub two_choices : (pattern : List Excitation) (case : Case) → Choice pattern case → decided case ≡ false → 2 ≤ choice_count case
two_choices pattern case choice d =
    let some = some_undecided case d in
    let e = get_or pattern some.0 l in
    let both = mul-le-mul {n₁ = 2} {m₁ = 1} (size_undecided (get_or case some.0 empty) some.2) (some_choice (narrowed some.0 choice)) in
    omega (arith, both, choices_by case some.0 e some.1)

-- The children of a case have its patterns between them, and there is one for each member of the set that is split.

pub children_sum : (case : Case) (input : ℕ) → input < length case → sum_over choice_count (children input case) ≡ choice_count case
unfolding children_below
children_sum case input h =
    let child : Excitation → Case = λ e. set case input (single e) in
    let each : (e : Excitation) → choice_count (child e) ≡ choice_count (child l) =
    λ e. choices_at case input (single e) l h ∙ ap (λ n. n * choice_count (child l)) (size_single e) ∙ one-mul (choice_count (child l)) in
    let members = members_below 4 (get_or case input empty) in
    sum_map choice_count child members ∙ sum_constant (λ e. choice_count (child e)) (choice_count (child l)) each members
    ∙ ap (λ n. n * choice_count (child l)) (members_long (get_or case input empty)) ∙ sym (choices_by case input l h)

pub children_long : (case : Case) (input : ℕ) → undecided (get_or case input empty) ≡ true → 2 ≤ length (children input case)
unfolding children_below
children_long case input u =
    omega (
      arith,
      length-map (members_below 4 (get_or case input empty)) (λ e. set case input (single e)),
      members_long (get_or case input empty),
      size_undecided (get_or case input empty) u,
    )

-- The store

unfoldable pub stored_choices : List StoredCase → ℕ
stored_choices cases = sum_over (λ x. choice_count x.sets) cases

pub made_choices : (simulated : List Excitation → ℕ) (bound : Case → ℕ) (cap : ℕ) (new : List Case)
    → stored_choices (map (made_under simulated bound cap) new) ≡ sum_over choice_count new
unfolding stored_choices made_under
made_choices simulated bound cap new = sum_map (λ x. choice_count x.sets) (made_under simulated bound cap) new

pub placed_choices : (k : ℕ) (new cases : List StoredCase) → k < length cases → 1 ≤ length new
    → stored_choices new ≡ choice_count (get_or cases k no_case).sets → stored_choices (placed k new cases) ≡ stored_choices cases
unfolding placed stored_choices sum_over
placed_choices k [] cases h some e = absurd (omega arith)
placed_choices k (x ∷ rest) cases h some e =
    let count : StoredCase → ℕ = λ x. choice_count x.sets in
    omega (arith, sum_append count (set cases k x) rest, sum_set count cases k x no_case h)

pub placed_long : (k : ℕ) (new cases : List StoredCase) → 1 ≤ length new → length (placed k new cases) + 1 ≡ length cases + length new
unfolding placed
placed_long k [] cases some = absurd (omega arith)
placed_long k (x ∷ rest) cases some = omega (arith, length-append (set cases k x) rest, length-set cases k x)
