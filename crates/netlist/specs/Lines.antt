-- Lines of a bench text, and what is left of a line without its comment and its blanks (request 1).
use Rattle.std.specs.Prelude.{ℕ, Bool, cond, ◌||◌, List, [], ◌∷◌, eqb}

-- A byte more at the start of the first line.
abbrev pub started_by : ℕ → List (List ℕ) → List (List ℕ)
started_by byte [] = (byte ∷ []) ∷ []
started_by byte (line ∷ lines) = (byte ∷ line) ∷ lines

-- "Lines end at byte 10, the last one also at the text's end."
unfoldable pub lines_of : List ℕ → List (List ℕ)
lines_of [] = []
lines_of (byte ∷ rest) = cond (eqb byte 10) ([] ∷ lines_of rest) (started_by byte (lines_of rest))

-- "`#` to the end of a line": a line up to its comment. `#` is byte 35.
unfoldable pub uncommented : List ℕ → List ℕ
uncommented [] = []
uncommented (byte ∷ rest) = cond (eqb byte 35) [] (byte ∷ uncommented rest)

-- "Blanks (bytes 9, 13, 32) are skipped everywhere, even inside names."
unfoldable pub is_blank : ℕ → Bool
is_blank byte = eqb byte 9 || (eqb byte 13 || eqb byte 32)

unfoldable pub without_blanks : List ℕ → List ℕ
without_blanks [] = []
without_blanks (byte ∷ rest) = cond (is_blank byte) (without_blanks rest) (byte ∷ without_blanks rest)

-- What is left of a line.
unfoldable pub content : List ℕ → List ℕ
content line = without_blanks (uncommented line)
