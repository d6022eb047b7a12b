-- Tests, counts, sums, the greatest and the last over the numbers below n. Each is defined by one number more.
use Rattle.std.specs.Prelude.{ℕ, zero, suc, ◌+◌, ◌-◌, max, Bool, true, false, cond, ◌&&◌, ◌||◌, ltb}

-- Whether p passes at every number below n.
unfoldable pub all_below : ℕ → (ℕ → Bool) → Bool
all_below zero p = true
all_below (suc n) p = all_below n p && p n

-- Whether p passes at some number below n.
unfoldable pub any_below : ℕ → (ℕ → Bool) → Bool
any_below zero p = false
any_below (suc n) p = any_below n p || p n

-- The greatest value of f below n, 0 where there is none.
unfoldable pub max_below : ℕ → (ℕ → ℕ) → ℕ
max_below zero f = 0
max_below (suc n) f = max (max_below n f) (f n)

-- The first number below n at which f is greatest, 0 where there is none.
unfoldable pub argmax : ℕ → (ℕ → ℕ) → ℕ
argmax zero f = 0
argmax (suc n) f = let best = argmax n f in cond (ltb (f best) (f n)) n best

-- The last number below n at which p passes, 0 where there is none.
unfoldable pub last_below : ℕ → (ℕ → Bool) → ℕ
last_below zero p = 0
last_below (suc n) p = cond (p n) n (last_below n p)

-- The sum of the values of f below n.
unfoldable pub sum_below : ℕ → (ℕ → ℕ) → ℕ
sum_below zero f = 0
sum_below (suc n) f = sum_below n f + f n

-- The sum of the values of f from number a to before number b.
unfoldable pub sum_between : ℕ → ℕ → (ℕ → ℕ) → ℕ
sum_between a b f = sum_below (b - a) (λ k. f (a + k))

-- 1 where a test passes, 0 where it fails.
abbrev pub indicator : Bool → ℕ
indicator true = 1
indicator false = 0

-- How many numbers below n pass p.
unfoldable pub count_below : ℕ → (ℕ → Bool) → ℕ
count_below zero p = 0
count_below (suc n) p = count_below n p + indicator (p n)
