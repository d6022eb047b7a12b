-- Parts of rows, 64 ticks long: a bit of each of four words says whether l, h, hl and lh are members of the set of a tick.
use Rattle.std.specs.Prelude.{ℕ, ◌+◌, ◌*◌, Bool, true, false, ◌||◌}
use Rattle.laws.specs.Below.{indicator}
use Rattle.bits.specs.Bits.{bit_at}
use Rattle.excitation.specs.Excitation.{TwoLevel}
use Rattle.excitation.specs.UncertaintySet.{UncertaintySet}
use Rattle.parts.specs.declared.Part.{Part}

-- The set at bit k.
unfoldable pub set_at : Part → ℕ → UncertaintySet
set_at part k = record { has_l = bit_at part.l k; has_h = bit_at part.h k; has_hl = bit_at part.hl k; has_lh = bit_at part.lh k }

-- Whether a set has a member.
abbrev pub has_some : UncertaintySet → Bool
has_some s = s.has_l || s.has_h || s.has_hl || s.has_lh

-- A function of two levels has a number 0 to 15, whose bit 2 × first + second is the level that it gives: 8 is AND, 14 OR, 6 XOR.
unfoldable pub numbered : ℕ → TwoLevel
numbered f first second = bit_at f (2 * indicator first + indicator second)

unfoldable pub number_of : TwoLevel → ℕ
number_of f = indicator (f false false) + 2 * indicator (f false true) + 4 * indicator (f true false) + 8 * indicator (f true true)
