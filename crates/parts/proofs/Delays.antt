-- Sets moved by some ticks, held, and compared, bit by bit.
-- Assumes nothing.
use Prim.Native.Nat.{ℕ, ◌-◌, ◌^◌, ◌<◌}
use mathlib.Core.Bool.{Bool, true, false, cond, not, ◌&&◌, ◌||◌, xor}
use mathlib.Core.Path.{◌≡◌, refl, ap, ap₂, subst, ◌∙◌}
use lib.Bits.{bit_and, bit_or}
use borrow.Author.Tests.{not-true}
use Rattle.laws.proofs.Tests.{or_fails, xor_fails}
use Rattle.bits.specs.Bits.{bit_at}
use Rattle.bits.proofs.Bits.{bit_and_lem, bit_or_lem, bit_not}
use Rattle.excitation.specs.UncertaintySet.{UncertaintySet}
use Rattle.excitation.proofs.Finite.{every_at, set_of}
use Rattle.excitation.proofs.Sets.{four_members}
use Rattle.parts.specs.Parts.{has_some}

-- A set that is one of two, bit by bit.
pub either_set : (t : Bool) (s u : UncertaintySet)
    → set_of (cond t s.has_l u.has_l) (cond t s.has_h u.has_h) (cond t s.has_hl u.has_hl) (cond t s.has_lh u.has_lh) ≡ cond t s u
either_set true s u = refl
either_set false s u = refl

-- Two sets are the same where they differ in no member, and nowhere else.

abbrev pub differences : UncertaintySet → UncertaintySet → UncertaintySet
differences s t = set_of (xor s.has_l t.has_l) (xor s.has_h t.has_h) (xor s.has_hl t.has_hl) (xor s.has_lh t.has_lh)

pub same_sets : (s t : UncertaintySet) → has_some (differences s t) ≡ false → s ≡ t
same_sets s t e =
    let first = or_fails _ _ e in
    let second = or_fails _ _ first.0 in
    let third = or_fails _ _ second.0 in
    four_members (xor_fails _ _ third.0) (xor_fails _ _ third.1) (xor_fails _ _ second.1) (xor_fails _ _ first.1)

none_differs : (s : UncertaintySet) → not (has_some (differences s s)) ≡ true
unfolding xor
none_differs = every_at (λ s. not (has_some (differences s s))) refl

pub no_other : (s t : UncertaintySet) → s ≡ t → has_some (differences s t) ≡ false
no_other s t e = subst (λ t. has_some (differences s t) ≡ false) e (not-true _ (none_differs s))

-- The bits of one word where a third is set, and those of another where it is clear.
pub chosen_bit : (a b ticks k : ℕ) → ticks < 2 ^ 64 → k < 64
    → bit_at (bit_or (bit_and a ticks) (bit_and b (2 ^ 64 - 1 - ticks))) k ≡ cond (bit_at ticks k) (bit_at a k) (bit_at b k)
chosen_bit a b ticks k fits h =
    bit_or_lem (bit_and a ticks) (bit_and b (2 ^ 64 - 1 - ticks)) k
    ∙ ap₂ ◌||◌ (bit_and_lem a ticks k) (bit_and_lem b (2 ^ 64 - 1 - ticks) k ∙ ap (λ c. bit_at b k && c) (bit_not 64 ticks k fits h))
    ∙ either (bit_at a k) (bit_at b k) (bit_at ticks k)
  where
    either : (x y t : Bool) → (x && t || y && not t) ≡ cond t x y
    either true true true = refl
    either true true false = refl
    either true false true = refl
    either true false false = refl
    either false true true = refl
    either false true false = refl
    either false false true = refl
    either false false false = refl
