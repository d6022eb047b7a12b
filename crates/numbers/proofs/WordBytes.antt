-- Laws of words in bytes, lowest first.
-- Assumes nothing.
use Rattle.std.proofs.Common.{◌≡◌, ℕ, zero, suc, ◌+◌, ◌*◌, ◌/◌, ◌%◌, ◌^◌, ◌<◌, w64, List, get_or, refl, sym, ap, ◌∙◌, arith}
use native.Mathlib.Nat.{div-one, add-zero}
use Rattle.std.specs.Int.{to_le_bytes}
use Rattle.numbers.specs.Words.{word_from}

-- A word by its eight bytes.
pub word_of_bytes : (bytes : List ℕ) (at : ℕ)
    → word_from 3 bytes at
    ≡ get_or bytes at 0 + 2 ^ 8 * get_or bytes (at + 1) 0 + 2 ^ 16 * get_or bytes (at + 2) 0 + 2 ^ 24 * get_or bytes (at + 3) 0
    + 2 ^ 32 * get_or bytes (at + 4) 0 + 2 ^ 40 * get_or bytes (at + 5) 0 + 2 ^ 48 * get_or bytes (at + 6) 0 + 2 ^ 56 * get_or bytes (at + 7) 0
unfolding word_from
word_of_bytes bytes at =
    let same : (i j : ℕ) → i ≡ j → get_or bytes i 0 ≡ get_or bytes j 0 = λ i j e. ap (λ k. get_or bytes k 0) e in
    omega (
      arith,
      same (at + 2 + 1) (at + 3) (omega arith),
      same (at + 4 + 1) (at + 5) (omega arith),
      same (at + 4 + 2) (at + 6) (omega arith),
      same (at + 4 + 2 + 1) (at + 7) (omega arith),
    )

-- Each byte of a word.
pub byte_of_word : (word k : ℕ) → k < 8 → get_or (to_le_bytes w64 word) k 0 ≡ word / 256 ^ k % 256
byte_of_word word zero h = ap (λ n. n % 256) (sym (div-one word))
byte_of_word word (suc zero) h = refl
byte_of_word word (suc (suc zero)) h = refl
byte_of_word word (suc (suc (suc zero))) h = refl
byte_of_word word (suc (suc (suc (suc zero)))) h = refl
byte_of_word word (suc (suc (suc (suc (suc zero))))) h = refl
byte_of_word word (suc (suc (suc (suc (suc (suc zero)))))) h = refl
byte_of_word word (suc (suc (suc (suc (suc (suc (suc zero))))))) h = refl
byte_of_word word (suc (suc (suc (suc (suc (suc (suc (suc k)))))))) h = absurd (omega arith)

-- The bytes alone make the word.
pub word_same : (bytes others : List ℕ) (at from : ℕ) → ((j : ℕ) → j < 8 → get_or bytes (at + j) 0 ≡ get_or others (from + j) 0)
    → word_from 3 bytes at ≡ word_from 3 others from
word_same bytes others at from same =
    omega (
      arith,
      word_of_bytes bytes at,
      word_of_bytes others from,
      first,
      same 1 (omega arith),
      same 2 (omega arith),
      same 3 (omega arith),
      same 4 (omega arith),
      same 5 (omega arith),
      same 6 (omega arith),
      same 7 (omega arith),
    )
  where
    first : get_or bytes at 0 ≡ get_or others from 0
    first = rw (← add-zero at, ← add-zero from) (same 0 (omega arith))

-- The eight bytes of a number hold it.
pub word_held : (bytes : List ℕ) (at number : ℕ) → number < 2 ^ 64 → ((j : ℕ) → j < 8 → get_or bytes (at + j) 0 ≡ number / 256 ^ j % 256)
    → word_from 3 bytes at ≡ number
word_held bytes at number low same =
    omega (
      arith,
      word_of_bytes bytes at,
      first,
      same 1 (omega arith),
      same 2 (omega arith),
      same 3 (omega arith),
      same 4 (omega arith),
      same 5 (omega arith),
      same 6 (omega arith),
      same 7 (omega arith),
    )
  where
    first : get_or bytes at 0 ≡ number % 256
    first = ap (λ i. get_or bytes i 0) (sym (add-zero at)) ∙ same 0 (omega arith) ∙ ap (λ n. n % 256) (div-one number)
