-- Laws of what is defined over the numbers below n.
-- Assumes nothing.
use Prim.Native.Nat.{ℕ, zero, suc, ◌+◌, ◌-◌, ◌*◌, ◌≤◌, ◌<◌, max}
use mathlib.Core.Path.{◌≡◌, refl, sym, ap, ◌∙◌}
use mathlib.Core.Bool.{Bool, true, false, cond, ◌&&◌, ◌||◌, and-true, and_assoc, false≢true}
use mathlib.Core.Logic.{⊎_elim}
use native.Mathlib.Nat.{add-zero, add-suc, not-suc-le-zero, eq-or-lt_of_le, le_of_suc-le-suc, mul-le-mul_right}
use native.Mathlib.Numerals.{add-one}
use native.Mathlib.Omega.{arith}
use lib.Dec.{eqb, ltb}
use borrow.Author.Tests.{ltb-true, ltb-false, eqb-true, ne_eqb}
use borrow.Table.Steps.{cases}
use Rattle.laws.specs.Below.{all_below, any_below, max_below, argmax, last_below, sum_below, sum_between, indicator, count_below}
use Rattle.laws.proofs.Tests.{and_left, and_right, and_both, and_second_fails, or_first, or_second, or_fails}

-- One number more, as a loop counts.

pub all_next : (n : ℕ) (p : ℕ → Bool) → all_below n p ≡ true → p n ≡ true → all_below (n + 1) p ≡ true
unfolding all_below
all_next n p s t = rw add-one (and_both s t)

pub max_next : (n : ℕ) (f : ℕ → ℕ) → max_below (n + 1) f ≡ max (max_below n f) (f n)
unfolding max_below
max_next n f = rw add-one refl

pub any_next : (n : ℕ) (p : ℕ → Bool) → any_below (n + 1) p ≡ (any_below n p || p n)
unfolding any_below
any_next n p = rw add-one refl

pub last_next : (n : ℕ) (p : ℕ → Bool) → last_below (n + 1) p ≡ cond (p n) n (last_below n p)
unfolding last_below
last_next n p = rw add-one refl

pub argmax_next : (n : ℕ) (f : ℕ → ℕ) → argmax (n + 1) f ≡ cond (ltb (f (argmax n f)) (f n)) n (argmax n f)
unfolding argmax
argmax_next n f = rw add-one refl

pub sum_next : (n : ℕ) (f : ℕ → ℕ) → sum_below (n + 1) f ≡ sum_below n f + f n
unfolding sum_below
sum_next n f = rw add-one refl

pub count_next : (n : ℕ) (p : ℕ → Bool) → count_below (n + 1) p ≡ count_below n p + indicator (p n)
unfolding count_below
count_next n p = rw add-one refl

-- A test of the numbers below n + 1 by the first of them.
pub all_first : (n : ℕ) (p : ℕ → Bool) → all_below (suc n) p ≡ (p 0 && all_below n (λ k. p (suc k)))
unfolding all_below
all_first zero p = sym (and-true (p 0))
all_first (suc n) p = rw (all_first n p) (and_assoc (p 0) (all_below n (λ k. p (suc k))) (p (suc n)))

-- A test that passes at every number below n passes at each.
pub all_at : (n : ℕ) (p : ℕ → Bool) (k : ℕ) → all_below n p ≡ true → k < n → p k ≡ true
unfolding all_below
all_at zero p k e h = absurd (not-suc-le-zero h)
all_at (suc n) p k e h =
    ⊎_elim (λ (q : k ≡ n). rw q (and_right (all_below n p) (p n) e)) (λ l. all_at n p k (and_left (all_below n p) (p n) e) l)
    (eq-or-lt_of_le (le_of_suc-le-suc h))

-- A test that passes at each number below n passes at all of them.
pub all_passes : (n : ℕ) (p : ℕ → Bool) → ((k : ℕ) → k < n → p k ≡ true) → all_below n p ≡ true
unfolding all_below
all_passes zero p each = refl
all_passes (suc n) p each = and_both (all_passes n p (λ k h. each k (omega arith))) (each n (omega arith))

-- One failure fails the whole.
pub all_fails : (n : ℕ) (p : ℕ → Bool) (k : ℕ) → k < n → p k ≡ false → all_below n p ≡ false
unfolding all_below
all_fails zero p k h e = absurd (not-suc-le-zero h)
all_fails (suc n) p k h e =
    ⊎_elim (λ (q : k ≡ n). and_second_fails (all_below n p) (rw q at e)) (λ l. rw (all_fails n p k l e) refl)
    (eq-or-lt_of_le (le_of_suc-le-suc h))

-- A test that passes at some number below n, and one that passes at none.

pub any_passes : (n : ℕ) (p : ℕ → Bool) (k : ℕ) → k < n → p k ≡ true → any_below n p ≡ true
unfolding any_below
any_passes zero p k h e = absurd (not-suc-le-zero h)
any_passes (suc n) p k h e =
    ⊎_elim (λ (q : k ≡ n). or_second (any_below n p) (rw q at e)) (λ l. or_first (p n) (any_passes n p k l e)) (eq-or-lt_of_le (le_of_suc-le-suc h))

pub any_fails : (n : ℕ) (p : ℕ → Bool) (k : ℕ) → any_below n p ≡ false → k < n → p k ≡ false
unfolding any_below
any_fails zero p k e h = absurd (not-suc-le-zero h)
any_fails (suc n) p k e h =
    let both = or_fails (any_below n p) (p n) e in
    ⊎_elim (λ (q : k ≡ n). rw q both.1) (λ l. any_fails n p k both.0 l) (eq-or-lt_of_le (le_of_suc-le-suc h))

pub any_none : (n : ℕ) (p : ℕ → Bool) → ((k : ℕ) → k < n → p k ≡ false) → any_below n p ≡ false
unfolding any_below
any_none zero p none = refl
any_none (suc n) p none = rw (any_none n p (λ k h. none k (omega arith)), none n (omega arith)) refl

-- No value below n is above the greatest.
pub max_at : (n : ℕ) (f : ℕ → ℕ) (k : ℕ) → k < n → f k ≤ max_below n f
unfolding max_below
max_at zero f k h = absurd (not-suc-le-zero h)
max_at (suc n) f k h =
    ⊎_elim (λ (q : k ≡ n). rw q (omega arith)) (λ l. let m = max_at n f k l in omega arith) (eq-or-lt_of_le (le_of_suc-le-suc h))

-- A binary digit counts as what it is.
pub indicator_of : (bit : ℕ) → bit < 2 → indicator (eqb bit 1) ≡ bit
indicator_of zero h = refl
indicator_of (suc zero) h = refl
indicator_of (suc (suc n)) h = absurd (omega arith)

-- At most n numbers below n pass, and n do exactly where all do.

pub count_at_most : (n : ℕ) (p : ℕ → Bool) → count_below n p ≤ n
unfolding count_below
count_at_most zero p = omega arith
count_at_most (suc n) p =
    let h = count_at_most n p in
    cases (p n) (λ e. rw e (omega arith)) (λ e. rw e (omega arith))

pub count_of_all : (n : ℕ) (p : ℕ → Bool) → all_below n p ≡ true → count_below n p ≡ n
unfolding count_below all_below
count_of_all zero p e = refl
count_of_all (suc n) p e =
    rw (count_of_all n p (and_left (all_below n p) (p n) e), and_right (all_below n p) (p n) e) (add-one n)

-- One number that passes counts; where fewer than two pass, two that do are the same.

count_some : (n : ℕ) (p : ℕ → Bool) (k : ℕ) → k < n → p k ≡ true → 1 ≤ count_below n p
unfolding count_below
count_some zero p k h e = absurd (not-suc-le-zero h)
count_some (suc n) p k h e =
    ⊎_elim (λ (q : k ≡ n). rw (ap p (sym q) ∙ e) (omega arith)) (λ l. let some = count_some n p k l e in omega arith)
    (eq-or-lt_of_le (le_of_suc-le-suc h))

pub count_two : (n : ℕ) (p : ℕ → Bool) (a b : ℕ) → a < n → b < n → p a ≡ true → p b ≡ true → count_below n p < 2 → a ≡ b
unfolding count_below
count_two zero p a b h l e f few = absurd (not-suc-le-zero h)
count_two (suc n) p a b h l e f few =
    ⊎_elim
    (λ (q : a ≡ n). ⊎_elim
    (λ (r : b ≡ n). q ∙ sym r)
    (λ m. absurd (let last : p n ≡ true = ap p (sym q) ∙ e in let one = rw last at few in omega (arith, count_some n p b m f)))
    (eq-or-lt_of_le (le_of_suc-le-suc l)))
    (λ k. ⊎_elim
    (λ (r : b ≡ n). absurd (let last : p n ≡ true = ap p (sym r) ∙ f in let one = rw last at few in omega (arith, count_some n p a k e)))
    (λ m. count_two n p a b k m e f (omega arith))
    (eq-or-lt_of_le (le_of_suc-le-suc l)))
    (eq-or-lt_of_le (le_of_suc-le-suc h))

pub all_of_count : (n : ℕ) (p : ℕ → Bool) → count_below n p ≡ n → all_below n p ≡ true
unfolding count_below all_below
all_of_count zero p e = refl
all_of_count (suc n) p e =
    let h = count_at_most n p in
    cases (p n)
    (λ t. let q : count_below n p + 1 ≡ suc n = rw t at e in and_both (all_of_count n p (omega arith)) t)
    (λ t. let q : count_below n p + 0 ≡ suc n = rw t at e in absurd (omega arith))

pub not_all_of_count : (n : ℕ) (p : ℕ → Bool) → (count_below n p ≡ n → ⊥) → all_below n p ≡ false
not_all_of_count n p h = cases (all_below n p) (λ t. absurd (h (count_of_all n p t))) (λ t. t)

-- Where p passes only at numbers below which it always passes, it passes exactly at the first ones.
pub count_first : (n : ℕ) (p : ℕ → Bool) → ((k : ℕ) → k < n → p k ≡ true → all_below k p ≡ true)
    → (k : ℕ) → k < n → (k < count_below n p → p k ≡ true) × (count_below n p ≤ k → p k ≡ false)
unfolding count_below
count_first zero p f k h = absurd (not-suc-le-zero h)
count_first (suc n) p f k h =
    cases (p n)
    (λ t. let all = f n (omega arith) t in
    let count : count_below n p + indicator (p n) ≡ n + 1 = rw (t, count_of_all n p all) refl in
    (λ l. ⊎_elim (λ (q : k ≡ n). rw q t) (λ m. all_at n p k all m) (eq-or-lt_of_le (le_of_suc-le-suc h)), λ l. absurd (omega arith)))
    (λ t. let count : count_below n p + indicator (p n) ≡ count_below n p + 0 = rw t refl in
    let most = count_at_most n p in
    ⊎_elim (λ (q : k ≡ n). (λ l. absurd (omega arith), λ l. rw q t))
    (λ m. let rest = count_first n p (λ j l u. f j (omega arith) u) k m in (λ l. rest.0 (omega arith), λ l. rest.1 (omega arith)))
    (eq-or-lt_of_le (le_of_suc-le-suc h)))

-- Tests that are the same, number by number.

pub all_same : (n : ℕ) (p q : ℕ → Bool) → ((k : ℕ) → k < n → p k ≡ q k) → all_below n p ≡ all_below n q
unfolding all_below
all_same zero p q same = refl
all_same (suc n) p q same = rw (all_same n p q (λ k h. same k (omega arith)), same n (omega arith)) refl

pub any_same : (n : ℕ) (p q : ℕ → Bool) → ((k : ℕ) → k < n → p k ≡ q k) → any_below n p ≡ any_below n q
unfolding any_below
any_same zero p q same = refl
any_same (suc n) p q same = rw (any_same n p q (λ k h. same k (omega arith)), same n (omega arith)) refl

pub count_same : (n : ℕ) (p q : ℕ → Bool) → ((k : ℕ) → k < n → p k ≡ q k) → count_below n p ≡ count_below n q
unfolding count_below
count_same zero p q same = refl
count_same (suc n) p q same = rw (count_same n p q (λ k h. same k (omega arith)), same n (omega arith)) refl

-- A test that passes wherever another does counts no fewer.
pub count_implied : (n : ℕ) (p q : ℕ → Bool) → ((k : ℕ) → k < n → p k ≡ true → q k ≡ true) → count_below n p ≤ count_below n q
unfolding count_below
count_implied zero p q passes = omega arith
count_implied (suc n) p q passes =
    let h = count_implied n p q (λ k l. passes k (omega arith)) in
    cases (p n) (λ t. rw (t, passes n (omega arith) t) (omega arith)) (λ t. rw t (omega arith))

-- Where none passes, the count is 0.
pub count_none : (n : ℕ) (p : ℕ → Bool) → ((k : ℕ) → k < n → p k ≡ false) → count_below n p ≡ 0
unfolding count_below
count_none zero p none = refl
count_none (suc n) p none = rw (count_none n p (λ k h. none k (omega arith)), none n (omega arith)) refl

-- The count of one stretch after another.
pub count_append : (m n : ℕ) (p : ℕ → Bool) → count_below (m + n) p ≡ count_below m p + count_below n (λ k. p (m + k))
unfolding count_below
count_append m zero p = rw (add-zero m) (sym (add-zero (count_below m p)))
count_append m (suc n) p = rw add-suc (omega (arith, count_append m n p))

-- Where none passes from n on, the count is that of the numbers below n.
pub count_beyond : (m n : ℕ) (p : ℕ → Bool) → n ≤ m → ((k : ℕ) → n ≤ k → k < m → p k ≡ false) → count_below m p ≡ count_below n p
count_beyond m n p h none =
    let split : m ≡ n + (m - n) = omega arith in
    let rest = count_none (m - n) (λ k. p (n + k)) (λ k l. none (n + k) (omega arith) (omega arith)) in
    ap (λ k. count_below k p) split ∙ omega (arith, count_append n (m - n) p)

-- The greatest and the sum of values that are the same, or no greater, number by number.

pub max_same : (n : ℕ) (f g : ℕ → ℕ) → ((k : ℕ) → k < n → f k ≡ g k) → max_below n f ≡ max_below n g
unfolding max_below
max_same zero f g same = refl
max_same (suc n) f g same = rw (max_same n f g (λ k h. same k (omega arith)), same n (omega arith)) refl

pub max_at_most : (n : ℕ) (f g : ℕ → ℕ) → ((k : ℕ) → k < n → f k ≤ g k) → max_below n f ≤ max_below n g
unfolding max_below
max_at_most zero f g less = omega arith
max_at_most (suc n) f g less = omega (arith, max_at_most n f g (λ k h. less k (omega arith)), less n (omega arith))

pub sum_same : (n : ℕ) (f g : ℕ → ℕ) → ((k : ℕ) → k < n → f k ≡ g k) → sum_below n f ≡ sum_below n g
unfolding sum_below
sum_same zero f g same = refl
sum_same (suc n) f g same = rw (sum_same n f g (λ k h. same k (omega arith)), same n (omega arith)) refl

pub sum_at_most : (n : ℕ) (f g : ℕ → ℕ) → ((k : ℕ) → k < n → f k ≤ g k) → sum_below n f ≤ sum_below n g
unfolding sum_below
sum_at_most zero f g less = omega arith
sum_at_most (suc n) f g less = omega (arith, sum_at_most n f g (λ k h. less k (omega arith)), less n (omega arith))

-- A bound of each value bounds the greatest, and the sum.
pub max_within : (n : ℕ) (f : ℕ → ℕ) (bound : ℕ) → ((k : ℕ) → k < n → f k ≤ bound) → max_below n f ≤ bound
unfolding max_below
max_within zero f bound each = omega arith
max_within (suc n) f bound each = omega (arith, max_within n f bound (λ k h. each k (omega arith)), each n (omega arith))

pub sum_within : (n : ℕ) (f : ℕ → ℕ) (bound : ℕ) → ((k : ℕ) → k < n → f k ≤ bound) → sum_below n f ≤ n * bound
unfolding sum_below
sum_within zero f bound each = omega arith
sum_within (suc n) f bound each = omega (arith, sum_within n f bound (λ k h. each k (omega arith)), each n (omega arith))

-- No value is above the sum, and fewer values sum to no more.

pub sum_at : (n : ℕ) (f : ℕ → ℕ) (k : ℕ) → k < n → f k ≤ sum_below n f
unfolding sum_below
sum_at zero f k h = absurd (not-suc-le-zero h)
sum_at (suc n) f k h =
    ⊎_elim (λ (q : k ≡ n). rw q (omega arith)) (λ l. omega (arith, sum_at n f k l)) (eq-or-lt_of_le (le_of_suc-le-suc h))

pub sum_fewer : (m n : ℕ) (f : ℕ → ℕ) → n ≤ m → sum_below n f ≤ sum_below m f
unfolding sum_below
sum_fewer zero n f h = let e : n ≡ 0 = omega arith in rw e (omega arith)
sum_fewer (suc m) n f h =
    ⊎_elim (λ (e : n ≡ suc m). rw e (omega arith)) (λ l. omega (arith, sum_fewer m n f (le_of_suc-le-suc l))) (eq-or-lt_of_le h)

-- Values times weights that have a bound: the bound times the sum of the values is a bound of the sum.
pub sum_weighted : (n : ℕ) (weight f : ℕ → ℕ) (bound : ℕ) → ((k : ℕ) → k < n → weight k ≤ bound)
    → sum_below n (λ k. weight k * f k) ≤ bound * sum_below n f
unfolding sum_below
sum_weighted zero weight f bound each = omega arith
sum_weighted (suc n) weight f bound each =
    let last : weight n * f n ≤ bound * f n = mul-le-mul_right (f n) (each n (omega arith)) in
    omega (arith, sum_weighted n weight f bound (λ k h. each k (omega arith)))

-- The sum of one stretch after another.
pub sum_append : (m n : ℕ) (f : ℕ → ℕ) → sum_below (m + n) f ≡ sum_below m f + sum_below n (λ k. f (m + k))
unfolding sum_below
sum_append m zero f = rw (add-zero m) (sym (add-zero (sum_below m f)))
sum_append m (suc n) f = rw add-suc (omega (arith, sum_append m n f))

pub sum_first : (n : ℕ) (f : ℕ → ℕ) → sum_below (suc n) f ≡ f 0 + sum_below n (λ k. f (suc k))
unfolding sum_below
sum_first zero f = omega arith
sum_first (suc n) f = omega (arith, sum_first n f)

-- Sums from one number to before another.

pub between_below : (a b : ℕ) (f : ℕ → ℕ) → a ≤ b → sum_below b f ≡ sum_below a f + sum_between a b f
unfolding sum_between
between_below a b f h = ap (λ n. sum_below n f) (let split : b ≡ a + (b - a) = omega arith in split) ∙ sum_append a (b - a) f

pub between_all : (n : ℕ) (f : ℕ → ℕ) → sum_between 0 n f ≡ sum_below n f
unfolding sum_below
between_all n f = omega (arith, between_below 0 n f (omega arith))

pub between_append : (a b c : ℕ) (f : ℕ → ℕ) → a ≤ b → b ≤ c → sum_between a c f ≡ sum_between a b f + sum_between b c f
between_append a b c f h l =
    omega (arith, between_below a c f (omega arith), between_below a b f h, between_below b c f l)

pub between_none : (a b : ℕ) (f : ℕ → ℕ) → ((k : ℕ) → a ≤ k → k < b → f k ≡ 0) → sum_between a b f ≡ 0
unfolding sum_between
between_none a b f none =
    let within = sum_within (b - a) (λ k. f (a + k)) 0 (λ k h. let zero = none (a + k) (omega arith) (omega arith) in omega arith) in
    omega arith

pub between_same : (a b : ℕ) (f g : ℕ → ℕ) → ((k : ℕ) → a ≤ k → k < b → f k ≡ g k) → sum_between a b f ≡ sum_between a b g
unfolding sum_between
between_same a b f g same = sum_same (b - a) _ _ (λ k h. same (a + k) (omega arith) (omega arith))

-- Of values that have a bound, and of which those of m numbers in a row alone are not 0, the sum is at most m times the bound.
pub sum_few : (n : ℕ) (f : ℕ → ℕ) (a m bound : ℕ) → ((k : ℕ) → f k ≤ bound) → ((k : ℕ) → k < a → f k ≡ 0) → ((k : ℕ) → a + m ≤ k → f k ≡ 0)
    → sum_below n f ≤ m * bound
unfolding sum_between sum_below
sum_few n f a m bound most before after =
    let b = a + m in
    let total = n + b in
    let fewer = sum_fewer total n f (omega arith) in
    let early = between_none 0 a f (λ k _ h. before k h) in
    let late = between_none b total f (λ k h _. after k h) in
    let inside = sum_within m (λ k. f (a + k)) bound (λ k h. most (a + k)) in
    let first = between_below 0 a f (omega arith) in
    let second = between_below a b f (omega arith) in
    let third = between_below b total f (omega arith) in
    let middle : sum_between a b f ≡ sum_below m (λ k. f (a + k)) = ap (λ n. sum_below n (λ k. f (a + k))) (let e : b - a ≡ m = omega arith in e) in
    omega arith

-- Where at most x is added to one value and nothing to the others, at most x is added to the sum.
pub sum_one_more : (n : ℕ) (f g : ℕ → ℕ) (at x : ℕ) → ((k : ℕ) → k < n → g k ≤ f k + cond (eqb at k) x 0) → sum_below n g ≤ sum_below n f + x
unfolding sum_below
sum_one_more zero f g at x each = omega arith
sum_one_more (suc n) f g at x each =
    cases (eqb at n)
    (λ t. let e = eqb-true at n t in
    let last : g n ≤ f n + x = rw t at (each n (omega arith)) in
    let others = sum_at_most n g f
    (λ k h. let here : g k ≤ f k + 0 = rw (ne_eqb at k (λ q. omega arith)) at (each k (omega arith)) in omega arith) in
    omega arith)
    (λ t. let last : g n ≤ f n + 0 = rw t at (each n (omega arith)) in
    omega (arith, sum_one_more n f g at x (λ k h. each k (omega arith))))

-- Values that are 0 from n on add nothing to the greatest.
pub max_beyond : (m n : ℕ) (f : ℕ → ℕ) → n ≤ m → ((k : ℕ) → n ≤ k → k < m → f k ≡ 0) → max_below m f ≡ max_below n f
unfolding max_below
max_beyond zero n f h none = let e : n ≡ 0 = omega arith in rw e refl
max_beyond (suc m) n f h none =
    ⊎_elim (λ (e : n ≡ suc m). rw e refl)
    (λ l. omega (arith, max_beyond m n f (le_of_suc-le-suc l) (λ k low high. none k low (omega arith)), none m (le_of_suc-le-suc l) (omega arith)))
    (eq-or-lt_of_le h)

-- The greatest over two numbers is the same, whichever of them is taken first.

swap_at_most : (m n : ℕ) (f : ℕ → ℕ → ℕ) → max_below m (λ i. max_below n (f i)) ≤ max_below n (λ j. max_below m (λ i. f i j))
swap_at_most m n f =
    max_within m _ _
    (λ i h. max_within n _ _ (λ j l. omega (arith, max_at m (λ k. f k j) i h, max_at n (λ k. max_below m (λ i. f i k)) j l)))

pub max_swap : (m n : ℕ) (f : ℕ → ℕ → ℕ) → max_below m (λ i. max_below n (f i)) ≡ max_below n (λ j. max_below m (λ i. f i j))
max_swap m n f = omega (arith, swap_at_most m n f, swap_at_most n m (λ j i. f i j))

-- The first number at which f is greatest: it is below n where there is one, f is greatest at it, and f is less before it.

argmax_at_most : (n : ℕ) (f : ℕ → ℕ) → argmax n f ≤ n
unfolding argmax
argmax_at_most zero f = omega arith
argmax_at_most (suc n) f =
    let h = argmax_at_most n f in
    cases (ltb (f (argmax n f)) (f n)) (λ t. rw t (omega arith)) (λ t. rw t (omega arith))

pub argmax_inside : (n : ℕ) (f : ℕ → ℕ) → 1 ≤ n → argmax n f < n
unfolding argmax
argmax_inside zero f l = absurd (omega arith)
argmax_inside (suc n) f l =
    let h = argmax_at_most n f in
    cases (ltb (f (argmax n f)) (f n)) (λ t. rw t (omega arith)) (λ t. rw t (omega arith))

pub argmax_is : (n : ℕ) (f : ℕ → ℕ) → 1 ≤ n → f (argmax n f) ≡ max_below n f
unfolding argmax max_below
argmax_is zero f l = absurd (omega arith)
argmax_is (suc zero) f l = cases (ltb (f 0) (f 0)) (λ t. rw t (omega arith)) (λ t. rw t (omega arith))
argmax_is (suc (suc n)) f l =
    let best = argmax (suc n) f in
    let h : f best ≡ max_below (suc n) f = argmax_is (suc n) f (omega arith) in
    cases (ltb (f best) (f (suc n)))
    (λ t. let m = ltb-true (f best) (f (suc n)) t in rw t (omega arith))
    (λ t. let m = ltb-false (f best) (f (suc n)) t in rw t (omega arith))

pub argmax_before : (n : ℕ) (f : ℕ → ℕ) (k : ℕ) → k < argmax n f → f k < f (argmax n f)
unfolding argmax
argmax_before zero f k = λ h. absurd (not-suc-le-zero h)
argmax_before (suc n) f k =
    let best = argmax n f in
    cases (ltb (f best) (f n))
    (λ t. rw t (λ h. omega (arith, ltb-true (f best) (f n) t, max_at n f k h, argmax_is n f (omega arith))))
    (λ t. rw t (argmax_before n f k))

pub argmax_same : (n : ℕ) (f g : ℕ → ℕ) → ((k : ℕ) → k < n → f k ≡ g k) → argmax n f ≡ argmax n g
unfolding argmax
argmax_same zero f g same = refl
argmax_same (suc n) f g same =
    rw (
      argmax_same n f g (λ k h. same k (omega arith)),
      same (argmax n g) (omega (arith, argmax_at_most n g)),
      same n (omega arith),
    )
    refl

-- The last number below n at which p passes: p fails after it, and passes at it unless it passes at none. Where p passes only where q does,
-- its last is not later.

pub last_after : (n : ℕ) (p : ℕ → Bool) (k : ℕ) → last_below n p < k → k < n → p k ≡ false
unfolding last_below
last_after zero p k = λ l h. absurd (not-suc-le-zero h)
last_after (suc n) p k =
    cases (p n)
    (λ t. rw t (λ l h. absurd (omega arith)))
    (λ t. rw t (λ l h. ⊎_elim (λ (q : k ≡ n). rw q t) (λ m. last_after n p k l m) (eq-or-lt_of_le (le_of_suc-le-suc h))))

pub last_none : (n : ℕ) (p : ℕ → Bool) → p (last_below n p) ≡ false → (k : ℕ) → k < n → p k ≡ false
unfolding last_below
last_none zero p = λ e k h. absurd (not-suc-le-zero h)
last_none (suc n) p =
    cases (p n)
    (λ t. rw t (λ e k h. absurd (false≢true (sym e ∙ t))))
    (λ t. rw t (λ e k h. ⊎_elim (λ (q : k ≡ n). rw q t) (λ m. last_none n p e k m) (eq-or-lt_of_le (le_of_suc-le-suc h))))

pub last_beyond : (m n : ℕ) (p : ℕ → Bool) → n ≤ m → ((k : ℕ) → n ≤ k → k < m → p k ≡ false) → last_below m p ≡ last_below n p
unfolding last_below
last_beyond zero n p h none = let e : n ≡ 0 = omega arith in rw e refl
last_beyond (suc m) n p h none =
    ⊎_elim (λ (e : n ≡ suc m). rw e refl)
    (λ l. rw (none m (le_of_suc-le-suc l) (omega arith)) (last_beyond m n p (le_of_suc-le-suc l) (λ k low high. none k low (omega arith))))
    (eq-or-lt_of_le h)

last_at_most : (n : ℕ) (p : ℕ → Bool) → last_below n p ≤ n
unfolding last_below
last_at_most zero p = omega arith
last_at_most (suc n) p = let h = last_at_most n p in cases (p n) (λ t. rw t (omega arith)) (λ t. rw t (omega arith))

pub last_implied : (n : ℕ) (p q : ℕ → Bool) → ((k : ℕ) → k < n → p k ≡ true → q k ≡ true) → last_below n p ≤ last_below n q
unfolding last_below
last_implied zero p q each = omega arith
last_implied (suc n) p q each =
    let rest = last_implied n p q (λ k h. each k (omega arith)) in
    cases (p n)
    (λ t. rw (t, each n (omega arith) t) (omega arith))
    (λ t. let low = last_at_most n p in cases (q n) (λ u. rw (t, u) (omega arith)) (λ u. rw (t, u) rest))
