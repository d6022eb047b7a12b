-- Text as bytes: words, numbers and lines (for document 01, "Program").
use Rattle.std.specs.Prelude.{ℕ, zero, suc, ◌+◌, ◌/◌, ◌%◌, ◌≤◌, true, false, List, [], ◌∷◌, ◌++◌, ◌≡◌, ltb, length}
use Rattle.arrayvec.specs.ArrayString.{ArrayString}

-- In ASCII 48 to 57 are the digits, 32 is the blank, and 10 ends a line.

-- The digits of a number that has at most so many: a number below 10 is one digit; any other has the digits of the number divided by 10,
-- and then its last one.
unfoldable pub digits : ℕ → ℕ → List ℕ
digits zero n = []
digits (suc most) n = elim (ltb n 10) [ true ↦ (48 + n) ∷ [] | false ↦ digits most (n / 10) ++ ((48 + n % 10) ∷ []) ]

-- A number in decimal, digit by digit. No number n has more than n + 1 digits.
unfoldable pub decimal : ℕ → List ℕ
decimal n = digits (suc n) n

-- A line of words, single blanks between.
unfoldable pub line : List (List ℕ) → List ℕ
line [] = 10 ∷ []
line (word ∷ []) = word ++ (10 ∷ [])
line (word ∷ next ∷ rest) = word ++ (32 ∷ line (next ∷ rest))

-- What a text holds.
abbrev pub written : ArrayString → List ℕ
written text = text.bytes

-- A text with some bytes more.
pub record Added (text : ArrayString) (more : List ℕ) (text' : ArrayString) : Type 0 where
  pub bytes : written text' ≡ written text ++ more
  pub used : length (written text') ≡ length (written text) + length more

-- A text that holds these bytes, in its buffer of 320.
pub record Printed (bytes : List ℕ) (text : ArrayString) : Type 0 where
  pub is : written text ≡ bytes
  pub fits : length (written text) ≤ 320
