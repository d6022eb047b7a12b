-- The bits of a word, lowest first, and of a row of words.
use Rattle.std.specs.Prelude.{ℕ, ◌/◌, ◌%◌, ◌^◌, Bool, List, eqb, get_or}

-- Whether bit k of a word is set.
unfoldable pub bit_at : ℕ → ℕ → Bool
bit_at word k = eqb (word / 2 ^ k % 2) 1

-- The bit of a row of words of 64 bits at tick t.
unfoldable pub row_bit : List ℕ → ℕ → Bool
row_bit row t = bit_at (get_or row (t / 64) 0) (t % 64)
