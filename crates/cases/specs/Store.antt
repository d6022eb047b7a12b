-- The case store's bytes and the pattern's (document 01, "Search").
use Rattle.std.specs.Prelude.{ℕ, zero, suc, ◌*◌, ◌-◌, ◌/◌, ◌%◌, List, [], ◌∷◌, ◌++◌, map, length, get_or, drop, replicate}
use Rattle.excitation.specs.Excitation.{l, byte_of}
use Rattle.excitation.specs.UncertaintySet.{code}
use Rattle.excitation.specs.declared.Excitation.{Excitation}
use Rattle.cases.specs.Case.{Case}
use Rattle.cases.specs.Search.{StoredCase}

-- The n bytes of a number, low first.
unfoldable pub number_bytes : ℕ → ℕ → List ℕ
number_bytes zero number = []
number_bytes (suc n) number = number % 256 ∷ number_bytes n (number / 256)

-- 64 bytes of input sets, 0 past the inputs.
unfoldable pub set_bytes : Case → List ℕ
set_bytes case = map code case ++ replicate (64 - length case) 0

-- The record of a case is 72 bytes: 64 bytes of input sets and its upper number, 8 bytes, low first.
unfoldable pub record_bytes : StoredCase → List ℕ
record_bytes x = set_bytes x.sets ++ number_bytes 8 x.upper

unfoldable pub store_bytes : List StoredCase → List ℕ
store_bytes [] = []
store_bytes (x ∷ rest) = record_bytes x ++ store_bytes rest

-- The store once it holds these cases. Store bytes past the cases are unchanged.
unfoldable pub store_with : List StoredCase → List ℕ → List ℕ
store_with cases given = store_bytes cases ++ drop (72 * length cases) given

-- Byte net of a pattern.
unfoldable pub pattern_byte : List Excitation → ℕ → ℕ
pattern_byte pattern net = byte_of (get_or pattern net l)

-- The pattern buffer once it holds this pattern. The pattern's bytes past the inputs are unchanged.
unfoldable pub pattern_with : List Excitation → List ℕ → List ℕ
pattern_with pattern given = map byte_of pattern ++ drop (length pattern) given
