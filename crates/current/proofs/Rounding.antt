-- Laws of rounding to the nearest, an exact half to the even one: it is right in the request's words, and no other number is; it grows with
-- what is rounded, and leaves a whole number as it is. Nothing else opens it but the computed examples.
-- Assumes nothing.
use Rattle.std.proofs.Common.{◌≡◌, ℕ, ◌+◌, ◌*◌, ◌/◌, ◌%◌, ◌<◌, ◌≤◌, eqb, ltb, leb, sym, refl, ap, ◌∙◌, mul-le-mul_right, mod-lt, div-add-mod', mul-div_cancel, add-one, arith, ltb-false, ltb-true, le-ltb, lt-ltb, eqb-true, leb-false, leb-true}
use Prim.Native.Nat.{compare, Ordering}
use native.Mathlib.Nat.{mul-mod_left, zero-div, zero-mod}
use lib.Dec.{is_le, compare_is_eq}
use lib.Ieee as ieee
use lib.Ieee.Nearest.{closest, closest_mono}
use borrow.Author.Tests.{eqb-false}
use borrow.Table.Steps.{cases}
use Rattle.current.specs.Rounding.{even_of, nearest, distance, NearestEven}

-- The even one of q and q + 1.
pub even_is : (q : ℕ) → even_of q ≡ q + q % 2
unfolding even_of
even_is q =
    cases (eqb (q % 2) 0)
    (λ t. rw t (omega (arith, eqb-true (q % 2) 0 t)))
    (λ t. rw t (omega (arith, eqb-false (q % 2) 0 t)))

-- What n / d is rounded to, by twice the rest.
module _ (n d : ℕ) where
  pub rounded_down : 2 * (n % d) < d → nearest n d ≡ n / d
  unfolding nearest
  rounded_down h = rw (lt-ltb (2 * (n % d)) d h)

  pub rounded_up : d < 2 * (n % d) → nearest n d ≡ n / d + 1
  unfolding nearest
  rounded_up h = rw (le-ltb (2 * (n % d)) d (omega arith), lt-ltb d (2 * (n % d)) h)

  pub rounded_even : 2 * (n % d) ≡ d → nearest n d ≡ even_of (n / d)
  unfolding nearest
  rounded_even e = rw (le-ltb (2 * (n % d)) d (omega arith), le-ltb d (2 * (n % d)) (omega arith))

  pub by_rest : {P : Type 0} → (2 * (n % d) < d → P) → (2 * (n % d) ≡ d → P) → (d < 2 * (n % d) → P) → P
  by_rest down even up =
      cases (ltb (2 * (n % d)) d)
      (λ t. down (ltb-true (2 * (n % d)) d t))
      (λ t. let least = ltb-false (2 * (n % d)) d t in
      cases (ltb d (2 * (n % d)))
      (λ u. up (ltb-true d (2 * (n % d)) u))
      (λ u. let most = ltb-false d (2 * (n % d)) u in even (omega arith)))

  -- The prover's library has the same rounding, for its floating-point numbers.
  pub as_closest : nearest n d ≡ closest n d
  as_closest = go (compare (n % d * 2) d) refl
    where
      go : (o : Ordering) → compare (n % d * 2) d ≡ o → nearest n d ≡ ieee.nearest (n / d) o
      go Ordering.lt e = rounded_down (omega (arith, leb-true (n % d * 2) d (ap is_le e), eqb-false (n % d * 2) d (ap compare_is_eq e)))
      go Ordering.eq e = rounded_even (omega (arith, eqb-true (n % d * 2) d (ap compare_is_eq e))) ∙ even_is (n / d)
      go Ordering.gt e = rounded_up (omega (arith, leb-false (n % d * 2) d (ap is_le e))) ∙ add-one (n / d)

-- 0 and every other whole number stay as they are.

pub nearest_none : (d : ℕ) → nearest 0 d ≡ 0
unfolding even_of
nearest_none d =
    by_rest 0 d
    (λ h. rounded_down 0 d h ∙ zero-div d)
    (λ e. rounded_even 0 d e ∙ ap even_of (zero-div d))
    (λ h. omega (arith, zero-mod d))

pub nearest_whole : (m : ℕ) {d : ℕ} → 1 ≤ d → nearest (m * d) d ≡ m
nearest_whole m {d} one =
    rounded_down (m * d) d (let none : m * d % d ≡ 0 = mul-mod_left m d in omega arith) ∙ mul-div_cancel m one

-- What is rounded grows, and so does what it is rounded to.
pub nearest_grows : (d : ℕ) {n m : ℕ} → 1 ≤ d → n ≤ m → nearest n d ≤ nearest m d
nearest_grows d {n} {m} one h = rw (as_closest n d, as_closest m d) (closest_mono n d m d one one (mul-le-mul_right d h))

-- The request's words.
module _ (n d : ℕ) (one : 1 ≤ d) where
  -- A whole number below n / d is away from it by the rest at least, and one above by what the rest is below d at least.
  none_closer : (m : ℕ) → distance (m * d) n ≤ n % d → distance (m * d) n + n % d ≤ d → (k : ℕ) → distance (m * d) n ≤ distance (k * d) n
  none_closer m below above k =
      let whole = div-add-mod' n d in
      cases (leb k (n / d))
      (λ t. omega (arith, mul-le-mul_right d (leb-true k (n / d) t)))
      (λ t. omega (arith, mul-le-mul_right d (leb-false k (n / d) t)))

  quotient_right : 2 * (n % d) ≤ d → (2 * (n % d) ≡ d → n / d % 2 ≡ 0) → NearestEven n d (n / d)
  quotient_right small even =
      let whole = div-add-mod' n d in
      record {
        none_nearer = none_closer (n / d) (omega arith) (omega arith);
        even_of_two = λ k other same.
            cases (ltb k (n / d))
            (λ t. omega (arith, mul-le-mul_right d (ltb-true k (n / d) t)))
            (λ t. let after : n / d + 1 ≤ k = omega (arith, ltb-false k (n / d) t, other) in
            even (omega (arith, mul-le-mul_right d after)));
      }

  next_right : d ≤ 2 * (n % d) → (2 * (n % d) ≡ d → (n / d + 1) % 2 ≡ 0) → NearestEven n d (n / d + 1)
  next_right large even =
      let whole = div-add-mod' n d in
      let rest = mod-lt n one in
      record {
        none_nearer = none_closer (n / d + 1) (omega arith) (omega arith);
        even_of_two = λ k other same.
            cases (leb k (n / d))
            (λ t. even (omega (arith, mul-le-mul_right d (leb-true k (n / d) t))))
            (λ t. let after : n / d + 2 ≤ k = omega (arith, leb-false k (n / d) t, other) in omega (arith, mul-le-mul_right d after));
      }

  pub nearest_right : NearestEven n d (nearest n d)
  unfolding even_of
  nearest_right =
      by_rest n d
      (λ h. rw (rounded_down n d h) (quotient_right (omega arith) (λ e. omega arith)))
      (λ e. rw (rounded_even n d e)
      (cases (eqb (n / d % 2) 0)
      (λ t. rw t (quotient_right (omega arith) (λ _. eqb-true (n / d % 2) 0 t)))
      (λ t. rw t (next_right (omega arith) (λ _. omega (arith, eqb-false (n / d % 2) 0 t))))))
      (λ h. rw (rounded_up n d h) (next_right (omega arith) (λ e. omega arith)))

  -- Of two numbers as near and both even, neither is lower: the number between them would be nearer.
  not_lower : {m k : ℕ} → NearestEven n d m → NearestEven n d k → m < k → ⊥
  not_lower {m} {k} first second lower =
      let same : distance (k * d) n ≡ distance (m * d) n = omega (arith, first.none_nearer k, second.none_nearer m) in
      let even_first = first.even_of_two k (λ e. omega arith) same in
      let even_second = second.even_of_two m (λ e. omega arith) (sym same) in
      let apart : m + 2 ≤ k = omega arith in
      omega (arith, mul-le-mul_right d apart, first.none_nearer (m + 1))

  pub nearest_only : {m : ℕ} → NearestEven n d m → m ≡ nearest n d
  nearest_only {m} right =
      cases (ltb m (nearest n d))
      (λ t. absurd (not_lower right nearest_right (ltb-true m (nearest n d) t)))
      (λ t. cases (ltb (nearest n d) m)
      (λ u. absurd (not_lower nearest_right right (ltb-true (nearest n d) m u)))
      (λ u. omega (arith, ltb-false m (nearest n d) t, ltb-false (nearest n d) m u)))
