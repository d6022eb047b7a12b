-- Laws of the bits of words: each once, over the width.
-- Assumes nothing.
use Prim.Native.Nat.{ℕ, zero, suc, ◌+◌, ◌-◌, ◌*◌, ◌/◌, ◌%◌, ◌^◌, ◌≤◌, ◌<◌}
use mathlib.Core.Path.{◌≡◌, refl, ap, sym, ◌∙◌}
use mathlib.Core.Bool.{Bool, false, cond, not, ◌&&◌, ◌||◌, xor, or-false}
use mathlib.Core.Logic.{⊎_elim}
use native.Mathlib.Nat.{one-mul, div-one, div-eq_of_lt, mod-lt, pow-suc, pow-succ', div-div-eq-div-mul, eq-or-lt_of_le, lt_of_lt_of_le}
use native.Mathlib.Numerals.{add-one}
use native.Mathlib.Omega.{arith}
use lib.Bits.{bit_and, bit_or, bit_xor, and_shr, and_mod, or_shr, or_mod, xor_shr, xor_mod}
use lib.Dec.{eqb, ltb, lit<}
use lib.Pow.{pow_pos, pow_mono, shr-shr, high, low, mod-pow-add, shl-shr, shl_exact, ones_lt, pow-lt}
use borrow.Author.Tests.{eq-eqb, ne_eqb, ltb-true, ltb-false}
use borrow.Table.Steps.{cases}
use Rattle.bits.specs.Bits.{bit_at}

-- The lowest bit, and the others.

pub bit_low : (a : ℕ) → bit_at a 0 ≡ eqb (a % 2) 1
unfolding bit_at
bit_low a = ap (λ n. eqb (n % 2) 1) (div-one a)

-- What a shift to the right leaves.
pub bit_shr : (a j k : ℕ) → bit_at (a / 2 ^ j) k ≡ bit_at a (j + k)
unfolding bit_at
bit_shr a j k = ap (λ n. eqb (n % 2) 1) (shr-shr a j k)

pub bit_next : (a k : ℕ) → bit_at a (suc k) ≡ bit_at (a / 2) k
unfolding bit_at
bit_next a k = ap (λ n. eqb (n % 2) 1) (ap (λ n. a / n) (pow-succ' 2 k) ∙ sym (div-div-eq-div-mul a 2 (2 ^ k)))

-- An operation that works on each bit apart, by its values at 0 and 1.
module _ (op : ℕ → ℕ → ℕ) (f : Bool → Bool → Bool)
    (shr : (a b k : ℕ) → op a b / 2 ^ k ≡ op (a / 2 ^ k) (b / 2 ^ k))
    (rest : (a b k : ℕ) → op a b % 2 ^ k ≡ op (a % 2 ^ k) (b % 2 ^ k))
    (table : (x y : ℕ) → x < 2 → y < 2 → eqb (op x y) 1 ≡ f (eqb x 1) (eqb y 1)) where
  op_bit : (a b k : ℕ) → bit_at (op a b) k ≡ f (bit_at a k) (bit_at b k)
  unfolding bit_at
  op_bit a b k =
      ap (λ n. eqb (n % 2) 1) (shr a b k) ∙ ap (λ n. eqb n 1) (rest (a / 2 ^ k) (b / 2 ^ k) 1)
      ∙ table (a / 2 ^ k % 2) (b / 2 ^ k % 2) (omega arith) (omega arith)

-- What holds of 0 and of 1 holds of each number below 2.
of_digit : (P : ℕ → Type 0) → P 0 → P 1 → (x : ℕ) → x < 2 → P x
of_digit P p q zero h = p
of_digit P p q (suc zero) h = q
of_digit P p q (suc (suc x)) h = absurd (omega arith)

of_digits : (P : ℕ → ℕ → Type 0) → P 0 0 → P 0 1 → P 1 0 → P 1 1 → (x y : ℕ) → x < 2 → y < 2 → P x y
of_digits P a b c d x y h k = of_digit (λ x. P x y) (of_digit (P 0) a b y k) (of_digit (P 1) c d y k) x h

pub bit_and_lem : (a b k : ℕ) → bit_at (bit_and a b) k ≡ (bit_at a k && bit_at b k)
bit_and_lem = op_bit bit_and ◌&&◌ and_shr and_mod (of_digits (λ x y. eqb (bit_and x y) 1 ≡ (eqb x 1 && eqb y 1)) refl refl refl refl)

pub bit_or_lem : (a b k : ℕ) → bit_at (bit_or a b) k ≡ (bit_at a k || bit_at b k)
bit_or_lem = op_bit bit_or ◌||◌ or_shr or_mod (of_digits (λ x y. eqb (bit_or x y) 1 ≡ (eqb x 1 || eqb y 1)) refl refl refl refl)

pub bit_xor_lem : (a b k : ℕ) → bit_at (bit_xor a b) k ≡ xor (bit_at a k) (bit_at b k)
unfolding xor
bit_xor_lem = op_bit bit_xor xor xor_shr xor_mod (of_digits (λ x y. eqb (bit_xor x y) 1 ≡ xor (eqb x 1) (eqb y 1)) refl refl refl refl)

-- A word of w bits has none set from w on.
pub bit_above : (w a k : ℕ) → a < 2 ^ w → w ≤ k → bit_at a k ≡ false
unfolding bit_at
bit_above w a k h l = ap (λ n. eqb (n % 2) 1) (div-eq_of_lt (lt_of_lt_of_le h (pow_mono l)))

pub bit_zero : (k : ℕ) → bit_at 0 k ≡ false
bit_zero k = bit_above 0 0 k (omega arith) (omega arith)

-- A word of a high part and j low bits.

pub bit_high : (hi j lo k : ℕ) → lo < 2 ^ j → bit_at (hi * 2 ^ j + lo) (j + k) ≡ bit_at hi k
bit_high hi j lo k h = sym (bit_shr (hi * 2 ^ j + lo) j k) ∙ ap (λ n. bit_at n k) (high hi j h)

even_plus : (q r : ℕ) → (q * 2 + r) % 2 ≡ r % 2
even_plus q r = omega arith

pub bit_mod : (a w k : ℕ) → k < w → bit_at (a % 2 ^ w) k ≡ bit_at a k
bit_mod a zero k h = absurd (omega arith)
bit_mod a (suc w) zero h =
    bit_low (a % 2 ^ suc w) ∙ ap (λ n. eqb n 1) lows ∙ sym (bit_low a)
  where
    lows : a % 2 ^ suc w % 2 ≡ a % 2
    lows = ap (λ n. n % 2) (ap (λ n. a % 2 ^ n) (sym (add-one w)) ∙ mod-pow-add a w 1) ∙ even_plus (a / 2 ^ 1 % 2 ^ w) (a % 2) ∙ omega arith
bit_mod a (suc w) (suc k) h =
    bit_next (a % 2 ^ suc w) k ∙ ap (λ n. bit_at n k) half ∙ bit_mod (a / 2) w k (omega arith) ∙ sym (bit_next a k)
  where
    half : a % 2 ^ suc w / 2 ≡ a / 2 % 2 ^ w
    half = ap (λ n. n / 2) (ap (λ n. a % 2 ^ n) (sym (add-one w)) ∙ mod-pow-add a w 1) ∙ high (a / 2 % 2 ^ w) 1 (mod-lt a (pow_pos 1))

pub bit_low_part : (hi j lo k : ℕ) → lo < 2 ^ j → k < j → bit_at (hi * 2 ^ j + lo) k ≡ bit_at lo k
bit_low_part hi j lo k h l = sym (bit_mod (hi * 2 ^ j + lo) j k l) ∙ ap (λ n. bit_at n k) (low hi j h)

-- A shift to the left in a word of w bits: the bits before j are clear, the others come from j bits before.

pub bit_shl : (w a j k : ℕ) → k < w → j ≤ k → bit_at (a * 2 ^ j % 2 ^ w) k ≡ bit_at a (k - j)
bit_shl w a j k h l =
    let split : j + (k - j) ≡ k = omega arith in
    bit_mod (a * 2 ^ j) w k h ∙ ap (bit_at (a * 2 ^ j)) (sym split) ∙ sym (bit_shr (a * 2 ^ j) j (k - j)) ∙ ap (λ n. bit_at n (k - j)) (shl-shr a j)

pub bit_shl_low : (w a j k : ℕ) → k < w → k < j → bit_at (a * 2 ^ j % 2 ^ w) k ≡ false
bit_shl_low w a j k h l =
    bit_mod (a * 2 ^ j) w k h ∙ ap (λ n. bit_at n k) (omega arith) ∙ bit_low_part a j 0 k (pow_pos j) l ∙ bit_zero k

-- A word d bits further on, with the last d bits of the word before it.
pub bit_moved : (before word d k : ℕ) → before < 2 ^ 64 → 1 ≤ d → d < 64 → k < 64
    → bit_at (bit_or (word * 2 ^ d % 2 ^ 64) (before / 2 ^ (64 - d))) k ≡ cond (ltb k d) (bit_at before (k + 64 - d)) (bit_at word (k - d))
bit_moved before word d k fits low high h =
    let place : 64 - d + k ≡ k + 64 - d = omega arith in
    bit_or_lem (word * 2 ^ d % 2 ^ 64) (before / 2 ^ (64 - d)) k
    ∙ cases (ltb k d)
    (λ t. let l = ltb-true k d t in rw (t, bit_shl_low 64 word d k h l, bit_shr before (64 - d) k, place) refl)
    (λ t. let l = ltb-false k d t in
    rw (t, bit_shl 64 word d k h l, bit_shr before (64 - d) k, bit_above 64 before (64 - d + k) fits (omega arith), or-false) refl)

-- Words turned over: the w bits of !a.
other_digit : (x : ℕ) → x < 2 → eqb ((1 - x) % 2) 1 ≡ not (eqb x 1)
other_digit = of_digit (λ x. eqb ((1 - x) % 2) 1 ≡ not (eqb x 1)) refl refl

pub bit_not : (w a k : ℕ) → a < 2 ^ w → k < w → bit_at ((2 ^ w - 1) - a) k ≡ not (bit_at a k)
bit_not zero a k h l = absurd (omega arith)
bit_not (suc w) a zero h l =
    bit_low ((2 ^ suc w - 1) - a) ∙ ap (λ n. eqb n 1) (turned (2 ^ w) (pow-suc 2 w) h) ∙ other_digit (a % 2) (omega arith)
    ∙ ap not (sym (bit_low a))
  where
    turned : (p : ℕ) → 2 ^ suc w ≡ p * 2 → a < 2 ^ suc w → ((2 ^ suc w - 1) - a) % 2 ≡ (1 - a % 2) % 2
    turned p e h = omega arith
bit_not (suc w) a (suc k) h l =
    bit_next ((2 ^ suc w - 1) - a) k ∙ ap (λ n. bit_at n k) (half (2 ^ w) (pow-suc 2 w) h)
    ∙ bit_not w (a / 2) k (smaller (2 ^ w) (pow-suc 2 w) h) (omega arith) ∙ ap not (sym (bit_next a k))
  where
    half : (p : ℕ) → 2 ^ suc w ≡ p * 2 → a < 2 ^ suc w → ((2 ^ suc w - 1) - a) / 2 ≡ (p - 1) - a / 2
    half p e h = omega arith

    smaller : (p : ℕ) → 2 ^ suc w ≡ p * 2 → a < 2 ^ suc w → a / 2 < p
    smaller p e h = omega arith

-- The word of the k lowest bits.
pub bit_ones : (k j : ℕ) → bit_at (2 ^ k - 1) j ≡ ltb j k
bit_ones k j =
    cases (ltb j k)
    (λ t. rw t (ap (λ n. bit_at n j) (omega arith) ∙ bit_not k 0 j (pow_pos k) (ltb-true j k t) ∙ ap not (bit_zero j)))
    (λ t. rw t (bit_above k (2 ^ k - 1) j (ones_lt k) (ltb-false j k t)))

-- The word whose one set bit is bit k.
pub one_shifted : (k : ℕ) → k < 64 → 1 * 2 ^ k % 2 ^ 64 ≡ 2 ^ k
one_shifted k h = shl_exact {a = 1} 1 k 64 (lit< tt) (omega arith) ∙ one-mul (2 ^ k)

pub own_bit : (k i : ℕ) → bit_at (2 ^ k) i ≡ eqb k i
own_bit k i =
    cases (ltb i k)
    (λ t. let l = ltb-true i k t in ap (λ n. bit_at n i) word ∙ bit_low_part 1 k 0 i (pow_pos k) l ∙ bit_zero i ∙ other (λ e. omega arith))
    (λ t. ⊎_elim
    (λ (e : k ≡ i). let place : i ≡ k + 0 = omega arith in
    ap (bit_at (2 ^ k)) place ∙ ap (λ n. bit_at n (k + 0)) word ∙ bit_high 1 k 0 0 (pow_pos k) ∙ bit_low 1 ∙ sym (eq-eqb k i e))
    (λ l. bit_above (k + 1) (2 ^ k) i (pow-lt (omega arith)) (omega arith) ∙ other (λ e. omega arith))
    (eq-or-lt_of_le (ltb-false i k t)))
  where
    word : 2 ^ k ≡ 1 * 2 ^ k + 0
    word = omega arith

    other : (k ≡ i → ⊥) → false ≡ eqb k i
    other ne = sym (ne_eqb k i ne)
