-- Sets whose members hold their level: what is joined of them, or turned over, holds its level too.
-- Assumes nothing.
use mathlib.Core.Bool.{Bool, true, false, ◌&&◌, ◌||◌, not, false≢true}
use mathlib.Core.Path.{◌≡◌, refl, sym, ap, ◌∙◌}
use borrow.Author.Tests.{not-true}
use borrow.Table.Steps.{cases}
use Rattle.laws.proofs.Tests.{and_left, and_right, or_cases}
use Rattle.excitation.specs.Excitation.{TwoLevel, hl, lh}
use Rattle.excitation.specs.UncertaintySet.{UncertaintySet, member, ◌∈◌, join_sets, each, invert_set, held_before_set, held_after_set, Held}
use Rattle.excitation.specs.declared.Excitation.{Excitation}
use Rattle.excitation.proofs.Finite.{for_each, every_at}
use Rattle.excitation.proofs.Sets.{join_members}

is_held : UncertaintySet → Bool
is_held s = not (member hl s) && not (member lh s)

held_so : (s : UncertaintySet) → is_held s ≡ true → Held s
unfolding is_held
held_so s e = record { no_hl = not-true _ (and_left _ _ e); no_lh = not-true _ (and_right (not (member hl s)) _ e) }

so_held : (s : UncertaintySet) → Held s → is_held s ≡ true
unfolding is_held
so_held s p = rw (p.no_hl, p.no_lh) refl

-- A member of such a set has one level, before and after.
level_held : (s : UncertaintySet) → Held s → (a : Excitation) → a ∈ s → a.before ≡ a.after
level_held s p =
    for_each (λ a. a ∈ s → a.before ≡ a.after) (λ m. refl) (λ m. refl) (λ m. absurd (false≢true (sym p.no_hl ∙ m)))
    (λ m. absurd (false≢true (sym p.no_lh ∙ m)))

pub join_held : (f : TwoLevel) (s t : UncertaintySet) → Held s → Held t → Held (join_sets f s t)
join_held f s t p q = record { no_hl = no hl (λ e. false≢true (sym e)); no_lh = no lh false≢true }
  where
    no : (e : Excitation) → (e.before ≡ e.after → ⊥) → member e (join_sets f s t) ≡ false
    no e differ =
        cases (member e (join_sets f s t))
        (λ m. let j = join_members f s t e m in
        let level : f j.0.before j.1.before ≡ f j.0.after j.1.after = rw (level_held s p j.0 j.2, level_held t q j.1 j.3) refl in
        absurd (differ (sym (ap (λ x. x.before) j.4) ∙ level ∙ ap (λ x. x.after) j.4)))
        (λ m. m)

invertible : UncertaintySet → Bool
invertible s = not (is_held s) || is_held (invert_set s)

pub invert_held : (s : UncertaintySet) → Held s → Held (invert_set s)
unfolding invertible is_held each member
invert_held s p =
    or_cases (not (is_held s)) (is_held (invert_set s)) (every_at invertible refl s)
    (λ e. absurd (false≢true (sym (rw (so_held s p) refl) ∙ e)))
    (λ e. held_so (invert_set s) e)

-- The first levels held, and the second.
pub before_held : (s : UncertaintySet) → Held (held_before_set s)
unfolding is_held each member
before_held s = held_so (held_before_set s) (every_at (λ s. is_held (held_before_set s)) refl s)

pub after_held : (s : UncertaintySet) → Held (held_after_set s)
unfolding is_held each member
after_held s = held_so (held_after_set s) (every_at (λ s. is_held (held_after_set s)) refl s)
