-- Rounding (request 4, "Nearest, half to even").
use Rattle.std.specs.Prelude.{◌≡◌, ℕ, ◌+◌, ◌-◌, ◌*◌, ◌/◌, ◌%◌, ◌≤◌, cond, ◌==◌, ◌≢◌, nat_lt}

-- The even one of q and q + 1.
unfoldable pub even_of : ℕ → ℕ
even_of q = cond (q % 2 == 0) q (q + 1)

-- n / d rounded to the nearest whole number, an exact half to the even one. With q and the rest of the division: q where twice the rest is
-- below d, q + 1 where it is above, and the even of the two where it is equal.
unfoldable pub nearest : ℕ → ℕ → ℕ
nearest n d =
    let q = n / d in
    let twice = 2 * (n % d) in
    cond (nat_lt twice d) q (cond (nat_lt d twice) (q + 1) (even_of q))

-- How far two numbers are apart.
abbrev pub distance : ℕ → ℕ → ℕ
distance a b = (a - b) + (b - a)

-- The request's words of a whole number m that n / d is rounded to: no whole number is nearer, and where another is as near, m is even. How
-- far m and n / d are apart is said d times as large, so that it is a whole number: how far m × d and n are apart.
pub record NearestEven (n d m : ℕ) : Type 0 where
  pub none_nearer : (k : ℕ) → distance (m * d) n ≤ distance (k * d) n
  pub even_of_two : (k : ℕ) → (k ≢ m) → distance (k * d) n ≡ distance (m * d) n → m % 2 ≡ 0
