-- Laws of numbers that are held in 8 bytes, low first.
-- Assumes nothing.
use Prim.Native.Nat.{ℕ, zero, suc, ◌/◌, ◌%◌, ◌<◌, ◌^◌}
use mathlib.Core.Path.{◌≡◌, refl, ap, sym, ◌∙◌}
use native.Mathlib.Nat.{not-suc-le-zero, le_of_suc-le-suc, div-one, mul_comm, pow-suc, div-div-eq-div-mul}
use lib.ListN.{length, get_or}
use Rattle.cases.specs.Store.{number_bytes}

pub number_long : (n number : ℕ) → length (number_bytes n number) ≡ n
unfolding number_bytes
number_long zero number = refl
number_long (suc n) number = ap suc (number_long n (number / 256))

-- Byte j of a number.
pub number_byte : (n number j : ℕ) → j < n → get_or (number_bytes n number) j 0 ≡ number / 256 ^ j % 256
unfolding number_bytes
number_byte zero number j h = absurd (not-suc-le-zero h)
number_byte (suc n) number zero h = ap (λ x. x % 256) (sym (div-one number))
number_byte (suc n) number (suc j) h =
    number_byte n (number / 256) j (le_of_suc-le-suc h)
    ∙ ap (λ x. x % 256) (div-div-eq-div-mul number 256 (256 ^ j) ∙ ap (λ x. number / x) (mul_comm 256 (256 ^ j) ∙ sym (pow-suc 256 j)))
