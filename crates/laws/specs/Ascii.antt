-- Words as bytes.
use Rattle.std.specs.Prelude.{ℕ, List, [], ◌∷◌}
use Prim.Native.Char.{code}
use Prim.Native.String.{String, [] as end, ◌∷◌ as ◌before◌}

-- The bytes of a word in ASCII.
abbrev pub ascii : String → List ℕ
ascii end = []
ascii (c before rest) = code c ∷ ascii rest
