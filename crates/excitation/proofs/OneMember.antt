-- Sets of one member: they are joined, and turned into another, as their members are.
-- Assumes nothing.
use mathlib.Core.Bool.{false≢true}
use mathlib.Core.Path.{◌≡◌, refl, sym, subst, ap, ◌∙◌}
use borrow.Table.Steps.{cases}
use Rattle.excitation.specs.Excitation.{TwoLevel, same, join_excitations}
use Rattle.excitation.specs.UncertaintySet.{UncertaintySet, member, ◌∈◌, single, join_sets, each}
use Rattle.excitation.specs.declared.Excitation.{Excitation}
use Rattle.excitation.proofs.Sets.{member_where, same_self, same_gives, join_contains, join_members, each_contains, each_members, set_is}

pub member_single : (e x : Excitation) → member e (single x) ≡ same e x
member_single e x = member_where (λ e. same e x) e

pub in_single : (x : Excitation) → x ∈ single x
in_single x = member_single x x ∙ same_self x

pub of_single : (x e : Excitation) → e ∈ single x → e ≡ x
of_single x e m = same_gives e x (sym (member_single e x) ∙ m)

-- A set with the one member x.
pub single_is : (s : UncertaintySet) (x : Excitation) → x ∈ s → ((e : Excitation) → e ∈ s → e ≡ x) → s ≡ single x
single_is s x here only =
    set_is s (single x)
    (λ e. cases (member e s)
    (λ m. m ∙ sym (subst (λ y. y ∈ single x) (sym (only e m)) (in_single x)))
    (λ m. m ∙ sym
    (cases (member e (single x)) (λ n. absurd (false≢true (sym m ∙ subst (λ y. y ∈ s) (sym (of_single x e n)) here))) (λ n. n))))

pub join_single : (f : TwoLevel) (a b : Excitation) → join_sets f (single a) (single b) ≡ single (join_excitations f a b)
join_single f a b =
    single_is (join_sets f (single a) (single b)) (join_excitations f a b) (join_contains f a b (single a) (single b) (in_single a) (in_single b))
    (λ e m. let j = join_members f (single a) (single b) e m in
    sym j.4 ∙ rw (of_single a j.0 j.2, of_single b j.1 j.3) refl)

pub each_single : (g : Excitation → Excitation) (a : Excitation) → each g (single a) ≡ single (g a)
each_single g a =
    single_is (each g (single a)) (g a) (each_contains g a (single a) (in_single a))
    (λ e m. let j = each_members g (single a) e m in sym j.2 ∙ ap g (of_single a j.0 j.1))
