-- Laws of tests: conjunctions and disjunctions that pass or fail, and tests that do not differ.
-- Assumes nothing.
use mathlib.Core.Path.{◌≡◌, refl, sym, ◌∙◌}
use mathlib.Core.Bool.{Bool, true, false, not, ◌&&◌, ◌||◌, xor, and-eq-true_iff, false≢true}
use borrow.Author.Tests.{not-true, not-false}

pub and_left : (a b : Bool) → (a && b) ≡ true → a ≡ true
and_left a b e = ((and-eq-true_iff a b).0 e).0

pub and_right : (a b : Bool) → (a && b) ≡ true → b ≡ true
and_right a b e = ((and-eq-true_iff a b).0 e).1

pub and_both : {a b : Bool} → a ≡ true → b ≡ true → (a && b) ≡ true
and_both {a} {b} s t = (and-eq-true_iff a b).1 (s, t)

pub and_first_fails : {a : Bool} (b : Bool) → a ≡ false → (a && b) ≡ false
and_first_fails b e = rw e refl

pub and_second_fails : (a : Bool) {b : Bool} → b ≡ false → (a && b) ≡ false
and_second_fails true e = e
and_second_fails false e = refl

pub or_first : {a : Bool} (b : Bool) → a ≡ true → (a || b) ≡ true
or_first b s = rw s refl

pub or_second : (a : Bool) {b : Bool} → b ≡ true → (a || b) ≡ true
or_second true s = refl
or_second false s = s

pub or_cases : {P : Type 0} (a b : Bool) → (a || b) ≡ true → (a ≡ true → P) → (b ≡ true → P) → P
or_cases true b e f g = f refl
or_cases false b e f g = g e

pub or_fails : (a b : Bool) → (a || b) ≡ false → (a ≡ false) × (b ≡ false)
or_fails true b e = absurd (false≢true (sym e))
or_fails false b e = (refl, e)

pub xor_fails : (a b : Bool) → xor a b ≡ false → a ≡ b
unfolding xor
xor_fails true true e = refl
xor_fails true false e = e
xor_fails false true e = sym e
xor_fails false false e = refl

-- What code learns of a definition's test t from its own test s of the same thing, turned over.
pub refuted : {s t : Bool} → s ≡ t → not s ≡ true → t ≡ false
refuted {s} e h = sym e ∙ not-true s h

pub confirmed : {s t : Bool} → s ≡ t → not s ≡ false → t ≡ true
confirmed {s} e h = sym e ∙ not-false s h

-- A test that passes wherever another does.
pub implied : (a b : Bool) → (not a || b) ≡ true → a ≡ true → b ≡ true
implied true b e t = e
implied false b e t = absurd (false≢true t)
