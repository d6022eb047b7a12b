-- Laws of uncertainty sets: what joining sets, and turning each member into another excitation, keeps of their members. For a
-- general function of two levels, and a general function of excitations.
-- Assumes nothing.
use mathlib.Core.Path.{◌≡◌, refl, sym, subst, ◌∙◌}
use mathlib.Core.Bool.{Bool, true, false, ◌&&◌, ◌||◌, beq, false≢true, and-false}
use Rattle.laws.proofs.Tests.{and_left, and_right, and_both, or_first, or_second, or_cases}
use Rattle.excitation.specs.declared.Excitation.{Excitation}
use Rattle.excitation.specs.Excitation.{TwoLevel, excitation, l, h, hl, lh, same, join_excitations}
use Rattle.excitation.specs.UncertaintySet.{UncertaintySet, member, ◌∈◌, ◌⊆◌, empty, set_where, some, join_of_one, join_of_both, join_sets, made_of, each}
use Rattle.excitation.proofs.Finite.{for_each, set_of}

pub member_where : (p : Excitation → Bool) (e : Excitation) → member e (set_where p) ≡ p e
unfolding member
member_where p = for_each (λ e. member e (set_where p) ≡ p e) refl refl refl refl

some_from : (p : Excitation → Bool) (a : Excitation) → p a ≡ true → some p ≡ true
some_from p =
    for_each (λ a. p a ≡ true → some p ≡ true)
    (λ t. or_first (p lh) (or_first (p hl) (or_first (p h) t)))
    (λ t. or_first (p lh) (or_first (p hl) (or_second (p l) t)))
    (λ t. or_first (p lh) (or_second (p l || p h) t))
    (λ t. or_second (p l || p h || p hl) t)

pub some_gives : (p : Excitation → Bool) → some p ≡ true → (a : Excitation) × (p a ≡ true)
some_gives p t =
    or_cases (p l || p h || p hl) (p lh) t
    (λ u. or_cases (p l || p h) (p hl) u
    (λ v. or_cases (p l) (p h) v (λ w. (l, w)) (λ w. (h, w)))
    (λ v. (hl, v)))
    (λ u. (lh, u))

level_self : (a : Bool) → beq a a ≡ true
level_self true = refl
level_self false = refl

pub level_same : (a b : Bool) → beq a b ≡ true → a ≡ b
level_same true true t = refl
level_same true false t = absurd (false≢true t)
level_same false true t = absurd (false≢true t)
level_same false false t = refl

pub same_self : (e : Excitation) → same e e ≡ true
same_self e = and_both (level_self e.before) (level_self e.after)

pub same_gives : (a b : Excitation) → same a b ≡ true → a ≡ b
same_gives a b t =
    let p = level_same a.before b.before (and_left _ (beq a.after b.after) t) in
    let q = level_same a.after b.after (and_right (beq a.before b.before) _ t) in
    λ i. excitation (p i) (q i)

-- The join of two sets contains the join of any two members.
pub join_contains : (f : TwoLevel) (a b : Excitation) (s t : UncertaintySet) → a ∈ s → b ∈ t → join_excitations f a b ∈ join_sets f s t
unfolding join_sets
join_contains f a b s t x y =
    let e = join_excitations f a b in
    let one = some_from (λ b. member b t && same (join_excitations f a b) e) b (and_both y (same_self e)) in
    member_where (join_of_both f s t) e ∙ some_from (λ a. member a s && join_of_one f a t e) a (and_both x one)

-- It has no other members.
pub join_members : (f : TwoLevel) (s t : UncertaintySet) (e : Excitation) → e ∈ join_sets f s t
    → (a : Excitation) × (b : Excitation) × (a ∈ s) × (b ∈ t) × (join_excitations f a b ≡ e)
unfolding join_sets
join_members f s t e m =
    let x = some_gives (λ a. member a s && join_of_one f a t e) (sym (member_where (join_of_both f s t) e) ∙ m) in
    let y = some_gives (λ b. member b t && same (join_excitations f x.0 b) e) (and_right (member x.0 s) _ x.1) in
    (x.0, y.0, and_left (member x.0 s) _ x.1, and_left (member y.0 t) _ y.1, same_gives _ _ (and_right (member y.0 t) _ y.1))

-- Larger sets have a larger join.
pub join_monotone : (f : TwoLevel) (s s' t t' : UncertaintySet) → s ⊆ s' → t ⊆ t' → join_sets f s t ⊆ join_sets f s' t'
join_monotone f s s' t t' x y e m =
    let j = join_members f s t e m in
    subst (λ e. e ∈ join_sets f s' t') j.4 (join_contains f j.0 j.1 s' t' (x j.0 j.2) (y j.1 j.3))

-- A set of which each member became another excitation contains what any member became.
pub each_contains : (g : Excitation → Excitation) (a : Excitation) (s : UncertaintySet) → a ∈ s → g a ∈ each g s
unfolding each
each_contains g a s x =
    member_where (made_of g s) (g a) ∙ some_from (λ b. member b s && same (g b) (g a)) a (and_both x (same_self (g a)))

pub each_members : (g : Excitation → Excitation) (s : UncertaintySet) (e : Excitation) → e ∈ each g s → (a : Excitation) × (a ∈ s) × (g a ≡ e)
unfolding each
each_members g s e m =
    let x = some_gives (λ a. member a s && same (g a) e) (sym (member_where (made_of g s) e) ∙ m) in
    (x.0, and_left (member x.0 s) _ x.1, same_gives _ _ (and_right (member x.0 s) _ x.1))

-- A set is known by its members.
pub set_is : (s t : UncertaintySet) → ((e : Excitation) → member e s ≡ member e t) → s ≡ t
unfolding member
set_is s t p = λ i. record { has_l = p l i; has_h = p h i; has_hl = p hl i; has_lh = p lh i }

-- Whether two sets are the same, as a test that can be computed.
abbrev pub same_set : UncertaintySet → UncertaintySet → Bool
same_set s t =
    beq s.has_l t.has_l && (beq s.has_h t.has_h && (beq s.has_hl t.has_hl && beq s.has_lh t.has_lh))

pub same_set_lem : (s t : UncertaintySet) → same_set s t ≡ true → s ≡ t
same_set_lem s t e =
    let f = and_right (beq s.has_l t.has_l) _ e in
    let g = and_right (beq s.has_h t.has_h) _ f in
    let a = level_same s.has_l t.has_l (and_left _ _ e) in
    let b = level_same s.has_h t.has_h (and_left _ _ f) in
    let c = level_same s.has_hl t.has_hl (and_left _ _ g) in
    let d = level_same s.has_lh t.has_lh (and_right (beq s.has_hl t.has_hl) _ g) in
    λ i. set_of (a i) (b i) (c i) (d i)

-- Four equations of members are one of sets.
pub four_members : {a b c d a' b' c' d' : Bool} → a ≡ a' → b ≡ b' → c ≡ c' → d ≡ d' → set_of a b c d ≡ set_of a' b' c' d'
four_members p q r s = λ i. set_of (p i) (q i) (r i) (s i)

-- A set with no member, joined with any set on either side, gives a set with no member.
pub join_empty_first : (f : TwoLevel) (t : UncertaintySet) → join_sets f empty t ≡ empty
unfolding join_sets member
join_empty_first f t = refl

pub join_empty_second : (f : TwoLevel) (s : UncertaintySet) → join_sets f s empty ≡ empty
unfolding join_sets member
join_empty_second f s =
    rw (and-false s.has_l, and-false s.has_h, and-false s.has_hl, and-false s.has_lh) refl
