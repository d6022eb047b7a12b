-- Uncertainty sets (document 01, "Excitations and sets").
use Rattle.std.specs.Prelude.{ℕ, ◌+◌, ◌*◌, ◌/◌, ◌%◌, ◌≡◌, Bool, true, false, cond, ◌&&◌, ◌||◌, List, eqb, get_or}
use Rattle.laws.specs.Below.{indicator}
use Rattle.laws.specs.Turn.{list_below}
use Rattle.excitation.specs.declared.Excitation.{Excitation}
use Rattle.excitation.specs.Excitation.{TwoLevel, l, h, hl, lh, same, join_excitations, invert_excitation, held_before, held_after}

-- Document 01's uncertainty set: which of l, h, hl and lh are its members.
pub record UncertaintySet : Type 0 where
  pub has_l : Bool
  pub has_h : Bool
  pub has_hl : Bool
  pub has_lh : Bool

-- Whether an excitation is one of a set.
unfoldable pub member : Excitation → UncertaintySet → Bool
member e s = cond e.before (cond e.after s.has_h s.has_hl) (cond e.after s.has_lh s.has_l)

infix 20 ◌∈◌
infix 20 ◌⊆◌
-- An excitation is a member of a set.
abbrev pub ◌∈◌ : Excitation → UncertaintySet → Type 0
e ∈ s = member e s ≡ true

-- Every member of a set is a member of another.
abbrev pub ◌⊆◌ : UncertaintySet → UncertaintySet → Type 0
s ⊆ t = (e : Excitation) → e ∈ s → e ∈ t

-- The set with no member, coded 0.
abbrev pub empty : UncertaintySet
empty = record { has_l = false; has_h = false; has_hl = false; has_lh = false }

-- The set of the excitations that pass a test.
abbrev pub set_where : (Excitation → Bool) → UncertaintySet
set_where p = record { has_l = p l; has_h = p h; has_hl = p hl; has_lh = p lh }

-- The set whose one member is x.
abbrev pub single : Excitation → UncertaintySet
single x = set_where (λ e. same e x)

-- Whether some excitation passes a test.
abbrev pub some : (Excitation → Bool) → Bool
some p = p l || p h || p hl || p lh

-- Document 01's number of a set, 0 to 15, as byte 18 has it: a sum of 1 (l), 2 (h), 4 (hl), 8 (lh).
unfoldable pub code : UncertaintySet → ℕ
code s = indicator s.has_l + 2 * indicator s.has_h + 4 * indicator s.has_hl + 8 * indicator s.has_lh

-- The set that a byte codes. Its four high bits say nothing.
unfoldable pub decode : ℕ → UncertaintySet
decode n = record {
  has_l = eqb (n % 2) 1;
  has_h = eqb (n / 2 % 2) 1;
  has_hl = eqb (n / 4 % 2) 1;
  has_lh = eqb (n / 8 % 2) 1;
}

-- The sets of the inputs, from their codes: a byte for each input.
unfoldable pub sets_in : ℕ → List ℕ → List UncertaintySet
sets_in inputs codes = list_below inputs (λ net. decode (get_or codes net 0))

-- Whether e is the join of a and a member of t, and whether it is the join of a member of s and a member of t.
abbrev pub join_of_one : TwoLevel → Excitation → UncertaintySet → Excitation → Bool
join_of_one f a t e = some (λ b. member b t && same (join_excitations f a b) e)

abbrev pub join_of_both : TwoLevel → UncertaintySet → UncertaintySet → Excitation → Bool
join_of_both f s t e = some (λ a. member a s && join_of_one f a t e)

-- The join of two sets is every join of a member of each.
unfoldable pub join_sets : TwoLevel → UncertaintySet → UncertaintySet → UncertaintySet
join_sets f s t = set_where (join_of_both f s t)

-- Whether e is what g makes of a member of s.
abbrev pub made_of : (Excitation → Excitation) → UncertaintySet → Excitation → Bool
made_of g s e = some (λ a. member a s && same (g a) e)

-- What becomes of a set when each of its members becomes another excitation.
unfoldable pub each : (Excitation → Excitation) → UncertaintySet → UncertaintySet
each g s = set_where (made_of g s)

-- A set turned over, and the sets that hold the first and the second levels of its members.
abbrev pub invert_set : UncertaintySet → UncertaintySet
invert_set = each invert_excitation

abbrev pub held_before_set : UncertaintySet → UncertaintySet
held_before_set = each held_before

abbrev pub held_after_set : UncertaintySet → UncertaintySet
held_after_set = each held_after

-- How many members a set has.
unfoldable pub size : UncertaintySet → ℕ
size s = indicator s.has_l + indicator s.has_h + indicator s.has_hl + indicator s.has_lh

-- A set whose members hold their level: neither hl nor lh is one of them.
pub record Held (s : UncertaintySet) : Type 0 where
  pub no_hl : member hl s ≡ false
  pub no_lh : member lh s ≡ false
