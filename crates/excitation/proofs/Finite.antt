-- A fact of every excitation and of every uncertainty set, by one case for each excitation or one computed test over all sets.
-- Assumes nothing.
use mathlib.Core.Bool.{Bool, true, false, not, ◌&&◌, ◌||◌}
use mathlib.Core.Path.{◌≡◌}
use Rattle.laws.proofs.Tests.{and_left, and_right, implied}
use Rattle.excitation.specs.Excitation.{excitation, l, h, hl, lh}
use Rattle.excitation.specs.UncertaintySet.{UncertaintySet, member, ◌∈◌}
use Rattle.excitation.specs.declared.Excitation.{Excitation}

-- What holds of l, h, hl and lh holds of every excitation.
pub for_each : (P : Excitation → Type 0) → P l → P h → P hl → P lh → (e : Excitation) → P e
for_each P at_l at_h at_hl at_lh e = go e.before e.after
  where
    go : (before after : Bool) → P (excitation before after)
    go false false = at_l
    go true true = at_h
    go true false = at_hl
    go false true = at_lh

abbrev pub set_of : Bool → Bool → Bool → Bool → UncertaintySet
set_of a b c d = record { has_l = a; has_h = b; has_hl = c; has_lh = d }

abbrev pub both_levels : (Bool → Bool) → Bool
both_levels p = p true && p false

-- Whether a test passes at all sixteen sets.
abbrev pub every_set : (UncertaintySet → Bool) → Bool
every_set p = both_levels (λ a. both_levels (λ b. both_levels (λ c. both_levels (λ d. p (set_of a b c d)))))

pub both_at : (p : Bool → Bool) → both_levels p ≡ true → (b : Bool) → p b ≡ true
both_at p e true = and_left (p true) (p false) e
both_at p e false = and_right (p true) (p false) e

pub every_at : (p : UncertaintySet → Bool) → every_set p ≡ true → (s : UncertaintySet) → p s ≡ true
every_at p e s =
    both_at (λ d. p (set_of s.has_l s.has_h s.has_hl d))
    (both_at (λ c. both_levels (λ d. p (set_of s.has_l s.has_h c d)))
    (both_at (λ b. both_levels (λ c. both_levels (λ d. p (set_of s.has_l b c d))))
    (both_at (λ a. both_levels (λ b. both_levels (λ c. both_levels (λ d. p (set_of a b c d))))) e s.has_l)
    s.has_h)
    s.has_hl)
    s.has_lh

-- Whether a test passes at every set that has a given member.
abbrev where_member : (UncertaintySet → Excitation → Bool) → Excitation → Bool
where_member test e = every_set (λ s. not (member e s) || test s e)

-- A test of sets and their members that was computed for all of them.
pub at_members : (test : UncertaintySet → Excitation → Bool) → where_member test l ≡ true → where_member test h ≡ true
    → where_member test hl ≡ true → where_member test lh ≡ true → (s : UncertaintySet) (e : Excitation) → e ∈ s → test s e ≡ true
at_members test at_l at_h at_hl at_lh s e m =
    implied (member e s) (test s e)
    (every_at (λ s. not (member e s) || test s e) (for_each (λ e. where_member test e ≡ true) at_l at_h at_hl at_lh e) s) m
