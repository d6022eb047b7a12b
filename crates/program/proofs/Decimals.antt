-- Laws of decimal numbers: the digits that the library writes are the definition's.
-- Assumes nothing.
use Rattle.std.proofs.Common.{ℕ, zero, suc, ◌^◌, ◌<◌, ◌≤◌, ◌≡◌, ◌/◌, ◌%◌, ◌+◌, ◌-◌, ◌*◌, false, List, [], ◌∷◌, ◌++◌, ◌∙◌, refl, ap, length, sym, subst, rules, arith}
use mathlib.Core.List.{append_assoc, append-nil}
use borrow.Table.Steps.{cases}
use borrow.Author.Tests.{lt-ltb, ltb-true, ltb-false, eq-eqb, ne_eqb}
use lib.Dec.{ltb}
use lib.ListN.{length-append}
use native.Mathlib.Nat.{pow-suc, pow-le-pow_right}
use Rattle.std.specs.Fmt as std
use Rattle.std.proofs.lemmas.Fmt.{AppendsLastDigit, length-decimal-le}
use Rattle.program.specs.Lines.{digits, decimal}

digit_by_digit : AppendsLastDigit digits
unfolding digits
digit_by_digit = search rules

-- A number of one digit is put before what is written already.
one_digit : (k most n : ℕ) (after : List ℕ) → n < 10 → std.digits_onto (suc k) 10 false n after ≡ digits (suc most) n ++ after
one_digit k most n after low =
    let same : n % 10 ≡ n = omega arith in
    let written : std.digits_onto (suc k) 10 false n after ≡ (48 + n % 10) ∷ after =
    rw (eq-eqb (n / 10) 0 (omega arith), lt-ltb (n % 10) 10 (omega arith)) refl in
    written ∙ ap (λ d. (48 + d) ∷ after) same ∙ ap (λ ds. ds ++ after) (sym (digit_by_digit.one most n low))

-- Of any other number its last digit is, and then the digits before that.
last_digit : (k n : ℕ) (after : List ℕ) → 10 ≤ n → std.digits_onto (suc k) 10 false n after ≡ std.digits_onto k 10 false (n / 10) ((48 + n % 10) ∷ after)
last_digit k n after high = rw (ne_eqb (n / 10) 0 (λ none. omega arith), lt-ltb (n % 10) 10 (omega arith)) refl

-- The digits of a number that has at most k + 1, put before what is written already.
digits_before : (k most n : ℕ) (after : List ℕ) → n < 10 ^ suc k → n < most → std.digits_onto (suc k) 10 false n after ≡ digits most n ++ after
digits_before k zero n after low room = absurd (omega arith)
digits_before zero (suc most) n after low room = one_digit zero most n after low
digits_before (suc k) (suc most) n after low room =
    cases (ltb n 10)
    (λ t. one_digit (suc k) most n after (ltb-true n 10 t))
    (λ t. (let large = ltb-false n 10 t in
    let power = pow-suc 10 (suc k) in
    last_digit (suc k) n after large
    ∙ digits_before k most (n / 10) ((48 + n % 10) ∷ after) (omega arith) (omega arith)
    ∙ sym (append_assoc (digits most (n / 10)) ((48 + n % 10) ∷ []) after)
    ∙ ap (λ ds. ds ++ after) (sym (digit_by_digit.more most n large))))

-- The digits of every number are the definition's, where there is room for them: the library writes the fewest.
pub decimal_is : (n k : ℕ) → n < 10 ^ suc k → std.digits_onto (suc k) 10 false n [] ≡ decimal n
unfolding decimal
decimal_is n k low = digits_before k (suc n) n [] low (omega arith) ∙ append-nil (digits (suc n) n)

-- So are those of a number of 64 bits, for which there is room.
pub decimal_written : (n : ℕ) → n < 2 ^ 64 → std.decimal n ≡ decimal n
unfolding std.digits
decimal_written n low = decimal_is n 63 (omega arith)

-- A number that fits in k + 1 digits and in no fewer has k + 1.
digit_count : (k most n : ℕ) → n < 10 ^ suc k → (1 ≤ k → 10 ^ k ≤ n) → n < most → length (digits most n) ≡ suc k
digit_count k zero n low high room = absurd (omega arith)
digit_count zero (suc most) n low high room = ap length (digit_by_digit.one most n low)
digit_count (suc k) (suc most) n low high room =
    let least : 10 ^ suc k ≤ n = high (omega arith) in
    let power : 10 ^ suc k ≡ 10 ^ k * 10 = pow-suc 10 k in
    let whole : 10 ^ suc (suc k) ≡ 10 ^ suc k * 10 = pow-suc 10 (suc k) in
    let some : 1 ≤ 10 ^ k = pow-le-pow_right {n = 10} (omega arith) {i = 0} {j = k} (omega arith) in
    let fewer : length (digits most (n / 10)) ≡ suc k = digit_count k most (n / 10) (omega arith) (λ h. omega arith) (omega arith) in
    let appended = length-append (digits most (n / 10)) ((48 + n % 10) ∷ []) in
    let digit : length ((48 + n % 10) ∷ []) ≡ 1 = refl in
    ap length (digit_by_digit.more most n (omega arith)) ∙ appended ∙ omega arith

-- So the digits are the fewest, whatever the number.
pub decimal_fewest : (n k : ℕ) → n < 10 ^ suc k → (1 ≤ k → 10 ^ k ≤ n) → length (decimal n) ≡ suc k
unfolding decimal
decimal_fewest n k low high = digit_count k (suc n) n low high (omega arith)

-- A number of 64 bits has at most 20.
pub decimal_short : (n : ℕ) → n < 2 ^ 64 → length (decimal n) ≤ 20
decimal_short n low = subst (λ ds. length ds ≤ 20) (decimal_written n low) (length-decimal-le 20 n (omega arith) (omega arith) low)
