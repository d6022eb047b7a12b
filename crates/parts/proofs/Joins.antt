-- Joins by a formula of the members of two sets, tried on all of them: parts are joined by the same formulas, of words.
-- Assumes nothing.
use mathlib.Core.Bool.{Bool, true, false, ◌&&◌, ◌||◌, xor}
use mathlib.Core.Path.{◌≡◌, refl}
use Rattle.bits.specs.Bits.{bit_at}
use Rattle.excitation.specs.UncertaintySet.{UncertaintySet, member, join_sets, each, invert_set}
use Rattle.excitation.proofs.Finite.{every_set, every_at, set_of}
use Rattle.excitation.proofs.Sets.{same_set, same_set_lem}
use Rattle.parts.specs.Parts.{has_some, numbered}

-- Two functions of two sets that give the same for all of them.
abbrev agree : (UncertaintySet → UncertaintySet → UncertaintySet) → (UncertaintySet → UncertaintySet → UncertaintySet) → Bool
agree f g = every_set (λ s. every_set (λ t. same_set (f s t) (g s t)))

agreed : (f g : UncertaintySet → UncertaintySet → UncertaintySet) → agree f g ≡ true → (s t : UncertaintySet) → f s t ≡ g s t
agreed f g e s t = same_set_lem (f s t) (g s t) (every_at (λ t. same_set (f s t) (g s t)) (every_at (λ s. every_set (λ t. same_set (f s t) (g s t))) e s) t)

-- AND, by a formula of the members.

abbrev and_sets : UncertaintySet → UncertaintySet → UncertaintySet
and_sets a b =
    set_of
    (a.has_l && has_some b || b.has_l && has_some a || a.has_hl && b.has_lh || a.has_lh && b.has_hl)
    (a.has_h && b.has_h)
    (a.has_hl && (b.has_h || b.has_hl) || a.has_h && b.has_hl)
    (a.has_lh && (b.has_h || b.has_lh) || a.has_h && b.has_lh)

pub and_sets_lem : (s t : UncertaintySet) → and_sets s t ≡ join_sets ◌&&◌ s t
unfolding join_sets member
and_sets_lem = agreed and_sets (join_sets ◌&&◌) refl

-- XOR.

abbrev xor_sets : UncertaintySet → UncertaintySet → UncertaintySet
xor_sets a b =
    set_of
    (a.has_l && b.has_l || a.has_h && b.has_h || a.has_hl && b.has_hl || a.has_lh && b.has_lh)
    (a.has_l && b.has_h || a.has_h && b.has_l || a.has_hl && b.has_lh || a.has_lh && b.has_hl)
    (a.has_l && b.has_hl || a.has_hl && b.has_l || a.has_h && b.has_lh || a.has_lh && b.has_h)
    (a.has_l && b.has_lh || a.has_lh && b.has_l || a.has_h && b.has_hl || a.has_hl && b.has_h)

pub xor_sets_lem : (s t : UncertaintySet) → xor_sets s t ≡ join_sets xor s t
unfolding join_sets member xor
xor_sets_lem = agreed xor_sets (join_sets xor) refl

-- Turning over.

abbrev swapped : UncertaintySet → UncertaintySet
swapped a = set_of a.has_h a.has_l a.has_lh a.has_hl

pub invert_swaps : (s : UncertaintySet) → swapped s ≡ invert_set s
unfolding each member
invert_swaps s = same_set_lem (swapped s) (invert_set s) (every_at (λ s. same_set (swapped s) (invert_set s)) refl s)

-- The first level, and 0.

abbrev first_sets : UncertaintySet → UncertaintySet → UncertaintySet
first_sets a b = set_of (a.has_l && has_some b) (a.has_h && has_some b) (a.has_hl && has_some b) (a.has_lh && has_some b)

pub first_sets_lem : (s t : UncertaintySet) → first_sets s t ≡ join_sets (λ x y. x) s t
unfolding join_sets member
first_sets_lem = agreed first_sets (join_sets (λ x y. x)) refl

abbrev low_sets : UncertaintySet → UncertaintySet → UncertaintySet
low_sets a b = set_of (has_some a && has_some b) false false false

pub low_sets_lem : (s t : UncertaintySet) → low_sets s t ≡ join_sets (λ x y. false) s t
unfolding join_sets member
low_sets_lem = agreed low_sets (join_sets (λ x y. false)) refl

-- The functions of two levels by their numbers.

pub by_1 : (s t : UncertaintySet) → join_sets ◌&&◌ (invert_set s) (invert_set t) ≡ join_sets (numbered 1) s t
unfolding join_sets member each numbered bit_at
by_1 = agreed _ _ refl

pub by_2 : (s t : UncertaintySet) → join_sets ◌&&◌ (invert_set s) t ≡ join_sets (numbered 2) s t
unfolding join_sets member each numbered bit_at
by_2 = agreed _ _ refl

pub by_3 : (s t : UncertaintySet) → invert_set (join_sets (λ x y. x) s t) ≡ join_sets (numbered 3) s t
unfolding join_sets member each numbered bit_at
by_3 = agreed _ _ refl

pub by_4 : (s t : UncertaintySet) → join_sets ◌&&◌ s (invert_set t) ≡ join_sets (numbered 4) s t
unfolding join_sets member each numbered bit_at
by_4 = agreed _ _ refl

pub by_5 : (s t : UncertaintySet) → invert_set (join_sets (λ x y. x) t s) ≡ join_sets (numbered 5) s t
unfolding join_sets member each numbered bit_at
by_5 = agreed _ _ refl

pub by_6 : (s t : UncertaintySet) → join_sets xor s t ≡ join_sets (numbered 6) s t
unfolding join_sets member numbered bit_at xor
by_6 = agreed _ _ refl

pub by_7 : (s t : UncertaintySet) → invert_set (join_sets ◌&&◌ s t) ≡ join_sets (numbered 7) s t
unfolding join_sets member each numbered bit_at
by_7 = agreed _ _ refl

pub by_8 : (s t : UncertaintySet) → join_sets ◌&&◌ s t ≡ join_sets (numbered 8) s t
unfolding join_sets member numbered bit_at
by_8 = agreed _ _ refl

pub by_9 : (s t : UncertaintySet) → invert_set (join_sets xor s t) ≡ join_sets (numbered 9) s t
unfolding join_sets member each numbered bit_at xor
by_9 = agreed _ _ refl

pub by_10 : (s t : UncertaintySet) → join_sets (λ x y. x) t s ≡ join_sets (numbered 10) s t
unfolding join_sets member numbered bit_at
by_10 = agreed _ _ refl

pub by_11 : (s t : UncertaintySet) → invert_set (join_sets ◌&&◌ s (invert_set t)) ≡ join_sets (numbered 11) s t
unfolding join_sets member each numbered bit_at
by_11 = agreed _ _ refl

pub by_12 : (s t : UncertaintySet) → join_sets (λ x y. x) s t ≡ join_sets (numbered 12) s t
unfolding join_sets member numbered bit_at
by_12 = agreed _ _ refl

pub by_13 : (s t : UncertaintySet) → invert_set (join_sets ◌&&◌ (invert_set s) t) ≡ join_sets (numbered 13) s t
unfolding join_sets member each numbered bit_at
by_13 = agreed _ _ refl

pub by_14 : (s t : UncertaintySet) → invert_set (join_sets ◌&&◌ (invert_set s) (invert_set t)) ≡ join_sets (numbered 14) s t
unfolding join_sets member each numbered bit_at
by_14 = agreed _ _ refl

pub by_15 : (s t : UncertaintySet) → invert_set (join_sets (λ x y. false) s t) ≡ join_sets (numbered 15) s t
unfolding join_sets member each numbered bit_at
by_15 = agreed _ _ refl

pub by_0 : (s t : UncertaintySet) → join_sets (λ x y. false) s t ≡ join_sets (numbered 0) s t
unfolding join_sets member numbered bit_at
by_0 = agreed _ _ refl

pub ruleset by_numbers = (by_1, by_2, by_3, by_4, by_5, by_6, by_7, by_8, by_9, by_10, by_11, by_12, by_13, by_14, by_15)
