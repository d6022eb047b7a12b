-- Excitations (document 01, "Excitations and sets") and patterns of them ("Levels and simulation").
use Rattle.std.specs.Prelude.{ℕ, Bool, true, false, not, cond, ◌&&◌, ◌||◌, List, [], ◌∷◌, get_or}
use Rattle.std.specs.Bool.{xor, beq}
use Rattle.laws.specs.Turn.{list_below}
use Rattle.excitation.specs.declared.Join.TheVariants as by
use Rattle.excitation.specs.declared.Excitation.{Excitation}
use Rattle.excitation.specs.declared.Join.{Join}

-- A level: false is 0, true is 1.
abbrev pub Level : Type 0
Level = Bool

-- A function of two levels, as AND, OR and XOR are.
abbrev pub TwoLevel : Type 0
TwoLevel = Level → Level → Level

-- Document 01's excitation: a pair of levels, before and after.
abbrev pub excitation : Level → Level → Excitation
excitation before after = record { before = before; after = after }

-- Document 01's l, h, hl and lh.
abbrev pub l : Excitation
l = excitation false false

abbrev pub h : Excitation
h = excitation true true

abbrev pub hl : Excitation
hl = excitation true false

abbrev pub lh : Excitation
lh = excitation false true

-- Gates work on each half alone: Figure 5 of document 000, for any function of two levels.
abbrev pub join_excitations : TwoLevel → Excitation → Excitation → Excitation
join_excitations f a b = excitation (f a.before b.before) (f a.after b.after)

-- An excitation turned over.
abbrev pub invert_excitation : Excitation → Excitation
invert_excitation a = excitation (not a.before) (not a.after)

-- The first level held, as an input has it before it switches, and the second, as it has it afterwards.
abbrev pub held_before : Excitation → Excitation
held_before a = excitation a.before a.before

abbrev pub held_after : Excitation → Excitation
held_after a = excitation a.after a.after

-- The function of two levels by which a multi-pin gate joins its pins: AND, OR or XOR.
abbrev pub levels_of : Join → TwoLevel
levels_of by.And = ◌&&◌
levels_of by.Or = ◌||◌
levels_of by.Xor = xor

-- Whether two excitations are the same one.
abbrev pub same : Excitation → Excitation → Bool
same a b = beq a.before b.before && beq a.after b.after

-- A byte of a pattern: 0 l, 1 h, 2 hl, 3 lh. The excitation of a byte, and the byte of an excitation.
unfoldable pub excitation_of : ℕ → Excitation
excitation_of byte = get_or (l ∷ h ∷ hl ∷ lh ∷ []) byte l

unfoldable pub byte_of : Excitation → ℕ
byte_of e = cond e.before (cond e.after 1 2) (cond e.after 3 0)

-- Document 01's pattern, from its bytes: byte i is for input net i; bytes past the inputs are not read.
unfoldable pub pattern_of : ℕ → List ℕ → List Excitation
pattern_of inputs bytes = list_below inputs (λ net. excitation_of (get_or bytes net 0))
