-- Laws of numbers in falling order, filled with 0 to four: one number more.
-- Assumes nothing.
use Prim.Native.Nat.{ℕ, zero, suc, ◌+◌, ◌-◌, ◌<◌, max, min}
use mathlib.Core.List.{List, [], ◌∷◌, ◌++◌}
use mathlib.Core.Path.{◌≡◌, refl, ap, sym, ◌∙◌}
use native.Mathlib.Omega.{arith}
use lib.ListN.{length, take, replicate, length-append}
use Rattle.cases.specs.SplitOrder.{put_falling, falling_with, falling, four}

falling_more : (before xs : List ℕ) (x : ℕ) → falling_with before (xs ++ (x ∷ [])) ≡ put_falling x (falling_with before xs)
unfolding falling_with
falling_more before [] x = refl
falling_more before (n ∷ rest) x = falling_more (put_falling n before) rest x

put_long : (x : ℕ) (ys : List ℕ) → length (put_falling x ys) ≡ suc (length ys)
unfolding put_falling
put_long x ys = go ys x
  where
    go : (ys : List ℕ) (x : ℕ) → length (put_falling x ys) ≡ suc (length ys)
    go [] x = refl
    go (y ∷ rest) x = ap suc (go rest _)

falling_long : (before xs : List ℕ) → length (falling_with before xs) ≡ length before + length xs
unfolding falling_with
falling_long before [] = omega arith
falling_long before (n ∷ rest) = falling_long (put_falling n before) rest ∙ (let e = put_long n before in omega arith)

-- A number put into a list that is filled with zeros, of which the last falls out.

abbrev zeros : ℕ → List ℕ
zeros n = replicate n 0

put_zeros : (x n : ℕ) → take (suc n) (put_falling x (zeros (suc n))) ≡ x ∷ zeros n
unfolding put_falling
put_zeros x zero = let e : max x 0 ≡ x = omega arith in ap (λ y. y ∷ []) e
put_zeros x (suc n) =
    let e : max x 0 ≡ x = omega arith in
    let m : min x 0 ≡ 0 = omega arith in
    rw (e, m) (ap (λ ys. x ∷ ys) (put_zeros 0 n))

put_filled : (x : ℕ) (ys : List ℕ) (n m : ℕ) → m ≡ length ys + suc n → take m (put_falling x (ys ++ zeros (suc n))) ≡ put_falling x ys ++ zeros n
unfolding put_falling
put_filled x [] n m e = let same : m ≡ suc n = omega arith in rw same (put_zeros x n)
put_filled x (y ∷ rest) n zero e = absurd (omega arith)
put_filled x (y ∷ rest) n (suc m) e = ap (λ zs. max x y ∷ zs) (put_filled (min x y) rest n m (omega arith))

-- One number more.
pub four_more : (xs : List ℕ) (x : ℕ) → length xs < 4 → four (xs ++ (x ∷ [])) ≡ take 4 (put_falling x (four xs))
unfolding four
four_more xs x few =
    let n = 3 - length xs in
    let long = length-append xs (x ∷ []) in
    let fewer : 4 - length (xs ++ (x ∷ [])) ≡ n = omega arith in
    let more : 4 - length xs ≡ suc n = omega arith in
    rw (falling_more [] xs x, fewer, more)
    (sym (put_filled x (falling xs) n 4 (let e = falling_long [] xs in omega arith)))
