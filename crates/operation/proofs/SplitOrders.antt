-- Laws of check 19: a list's nets counted one by one, and what a list that passes is.
-- Assumes nothing.
use Prim.Native.Nat.{ℕ, zero, suc, ◌+◌, ◌≤◌, ◌<◌}
use mathlib.Core.List.{List, [], ◌∷◌}
use mathlib.Core.Bool.{true}
use mathlib.Core.Path.{◌≡◌, refl, ap, ◌∙◌}
use native.Mathlib.Nat.{zero-add}
use native.Mathlib.Numerals.{add-one}
use native.Mathlib.Omega.{arith}
use lib.Dec.{eqb, ltb}
use lib.ListN.{length, get_or, drop, drop_of_length-le}
use lib.Seq.{drop-cons}
use borrow.Author.Tests.{eqb-true, eq-eqb, ne_eqb, ltb-true, ltb-false}
use borrow.Table.Steps.{cases}
use Rattle.laws.specs.Below.{sum_below, indicator}
use Rattle.laws.proofs.Below.{all_at, sum_same, sum_within, sum_one_more}
use Rattle.laws.proofs.Tests.{and_left, and_right}
use Rattle.operation.specs.SplitOrder.{times_named, names_each, NetsListed}

module _ (order : List ℕ) (net : ℕ) where
  abbrev times_from : ℕ → ℕ
  times_from k = times_named (drop k order) net

  times_step : (k : ℕ) → k < length order → times_from k ≡ indicator (eqb (get_or order k 0) net) + times_from (k + 1)
  unfolding times_named
  times_step k h = ap (λ xs. times_named xs net) (drop-cons order k 0 h) ∙ rw add-one refl

  pub times_here : (k x : ℕ) → k < length order → x ≡ get_or order k 0 → x ≡ net → times_from k ≡ 1 + times_from (k + 1)
  times_here k x h e t = times_step k h ∙ rw (← e, eq-eqb x net t) refl

  pub times_other : (k x : ℕ) → k < length order → x ≡ get_or order k 0 → (x ≡ net → ⊥) → times_from k ≡ times_from (k + 1)
  times_other k x h e t = times_step k h ∙ rw (← e, ne_eqb x net t) (zero-add _)

  pub times_end : (k : ℕ) → length order ≤ k → times_from k ≡ 0
  unfolding times_named
  times_end k h = rw (drop_of_length-le order {i = k} h) refl

-- A list of so many nets that names each input once names nothing else: the counts of the inputs make its length.

sum_ones : (n : ℕ) (f : ℕ → ℕ) → ((k : ℕ) → k < n → f k ≡ 1) → sum_below n f ≡ n
unfolding sum_below
sum_ones zero f each = refl
sum_ones (suc n) f each = rw (sum_ones n f (λ k h. each k (omega arith)), each n (omega arith), add-one) refl

one_more : (n x : ℕ) (rest : List ℕ) → sum_below n (times_named (x ∷ rest)) ≤ sum_below n (times_named rest) + 1
unfolding times_named
one_more n x rest =
    sum_one_more n (times_named rest) (times_named (x ∷ rest)) x 1
    (λ k h. cases (eqb x k) (λ t. rw t (omega arith)) (λ t. rw t (omega arith)))

named_at_most : (n : ℕ) (order : List ℕ) → sum_below n (times_named order) ≤ length order
unfolding times_named
named_at_most n [] = let z = sum_within n (times_named []) 0 (λ k h. omega arith) in omega arith
named_at_most n (x ∷ rest) = omega (arith, one_more n x rest, named_at_most n rest)

-- A net past the inputs leaves fewer places.
named_past : (n : ℕ) (order : List ℕ) (k : ℕ) → k < length order → n ≤ get_or order k 0 → sum_below n (times_named order) < length order
unfolding times_named
named_past n [] k h past = absurd (omega arith)
named_past n (x ∷ rest) zero h past =
    let same = sum_same n (times_named (x ∷ rest)) (times_named rest) (λ net l. rw (ne_eqb x net (λ e. omega arith)) (zero-add _)) in
    omega (arith, same, named_at_most n rest)
named_past n (x ∷ rest) (suc k) h past = omega (arith, one_more n x rest, named_past n rest k (omega arith) past)

pub nets_listed : (inputs : ℕ) (order : List ℕ) → names_each inputs order ≡ true → NetsListed inputs order
unfolding names_each
nets_listed inputs order right =
    let long = eqb-true _ inputs (and_left (eqb (length order) inputs) _ right) in
    let all = sum_ones inputs (times_named order)
    (λ net h. eqb-true _ 1 (all_at inputs (λ net. eqb (times_named order net) 1) net (and_right (eqb (length order) inputs) _ right) h)) in
    record {
      long = long;
      low = λ k h. cases (ltb (get_or order k 0) inputs)
          (λ t. ltb-true _ inputs t)
          (λ t. absurd (let past = named_past inputs order k (omega arith) (ltb-false _ inputs t) in omega arith));
    }
