-- Words in bytes, lowest first.
use Rattle.std.specs.Prelude.{ℕ, zero, suc, ◌+◌, ◌*◌, ◌^◌, List, get_or}

-- The number of the 2 ^ n bytes from a place on: its low half, then its high half.
unfoldable pub word_from : ℕ → List ℕ → ℕ → ℕ
word_from zero bytes at = get_or bytes at 0
word_from (suc n) bytes at = word_from n bytes at + 2 ^ (8 * 2 ^ n) * word_from n bytes (at + 2 ^ n)
