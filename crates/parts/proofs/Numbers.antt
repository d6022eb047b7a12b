-- Every function of two levels is the one of its number.
-- Assumes nothing.
use Prim.Native.Nat.{ℕ, ◌+◌, ◌*◌, ◌/◌, ◌<◌}
use mathlib.Core.Bool.{Bool, true, false, cond, beq, xor}
use mathlib.Core.Path.{◌≡◌, refl, ap, sym, subst, ◌∙◌, fun_ext}
use native.Mathlib.Omega.{arith}
use lib.Dec.{eqb}
use borrow.Author.Tests.{eqb-true}
use Rattle.laws.specs.Below.{indicator, all_below}
use Rattle.laws.proofs.Below.{all_at}
use Rattle.bits.specs.Bits.{bit_at}
use Rattle.excitation.specs.Excitation.{TwoLevel, levels_of}
use Rattle.excitation.specs.UncertaintySet.{member, code, decode, join_sets}
use Rattle.excitation.specs.declared.Join.TheVariants as by
use Rattle.excitation.specs.declared.Join.{Join}
use Rattle.excitation.proofs.Finite.{both_levels, both_at}
use Rattle.excitation.proofs.Sets.{level_same}
use Rattle.parts.specs.Parts.{numbered, number_of}

-- The number whose bits are these four levels, and the level of each place, tried on all of them.
abbrev of_levels : Bool → Bool → Bool → Bool → ℕ
of_levels a b c d = indicator a + 2 * indicator b + 4 * indicator c + 8 * indicator d

abbrev right : Bool → Bool → Bool → Bool → Bool → Bool → Bool
right a b c d x y = beq (bit_at (of_levels a b c d) (2 * indicator x + indicator y)) (cond x (cond y d c) (cond y b a))

abbrev every : (Bool → Bool → Bool) → Bool
every p = both_levels (λ x. both_levels (λ y. p x y))

every_gives : (p : Bool → Bool → Bool) → every p ≡ true → (x y : Bool) → p x y ≡ true
every_gives p e x y = both_at (p x) (both_at (λ x. both_levels (p x)) e x) y

level_at : (a b c d x y : Bool) → bit_at (of_levels a b c d) (2 * indicator x + indicator y) ≡ cond x (cond y d c) (cond y b a)
unfolding bit_at
level_at a b c d x y =
    level_same _ _
    (every_gives (right a b c d)
    (every_gives (λ c d. every (right a b c d)) (every_gives (λ a b. every (λ c d. every (right a b c d))) refl a b) c d) x y)

of_both : (f : TwoLevel) (x y : Bool) → cond x (cond y (f true true) (f true false)) (cond y (f false true) (f false false)) ≡ f x y
of_both f true true = refl
of_both f true false = refl
of_both f false true = refl
of_both f false false = refl

pub numbered_is : (f : TwoLevel) → numbered (number_of f) ≡ f
unfolding numbered number_of
numbered_is f =
    fun_ext (λ x. fun_ext (λ y. level_at (f false false) (f false true) (f true false) (f true true) x y ∙ of_both f x y))

-- What the table has for the sets of one held level each, l coded 1 and h coded 2, is the set of the level that the function gives.

abbrev entry_of : Join → ℕ → ℕ → ℕ
entry_of j first second = code (join_sets (levels_of j) (decode (first + 1)) (decode (second + 1)))

abbrev level_of : Join → ℕ → ℕ → ℕ
level_of j first second = indicator (levels_of j (eqb first 1) (eqb second 1))

abbrev entry_right : Join → ℕ → ℕ → Bool
entry_right j first second = eqb (entry_of j first second / 2) (level_of j first second)

entries_right : (j : Join) → all_below 2 (λ first. all_below 2 (entry_right j first)) ≡ true
unfolding all_below join_sets member code decode xor
entries_right by.And = refl
entries_right by.Or = refl
entries_right by.Xor = refl

small : (b : Bool) → indicator b < 2
small true = omega arith
small false = omega arith

pub level_read : (j : Join) (first second entry : ℕ) → entry ≡ entry_of j first second → first < 2 → second < 2
    → (entry / 2 ≡ level_of j first second) × (entry / 2 < 2)
level_read j first second entry e p q =
    let tried = all_at 2 (entry_right j first) second (all_at 2 (λ first. all_below 2 (entry_right j first)) first (entries_right j) p) q in
    let same : entry / 2 ≡ level_of j first second = ap (λ n. n / 2) e ∙ eqb-true _ _ tried in
    (same, subst (λ n. n < 2) (sym same) (small (levels_of j (eqb first 1) (eqb second 1))))
