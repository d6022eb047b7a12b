-- A test of the numbers of a range, as an iterator makes it.
-- Assumes nothing.
use Rattle.std.proofs.Common.{◌≡◌, ℕ, zero, suc, ◌+◌, Bool, sym, refl, ap, ◌∙◌, arith}
use Rattle.std.specs.List.{list_all, range_with_len}
use Rattle.laws.specs.Below.{all_below}
use Rattle.laws.proofs.Below.{all_first}

-- A test of n numbers from a on.
pub all_from : (a n : ℕ) (p q : ℕ → Bool) → ((k : ℕ) → p (a + k) ≡ q k) → list_all p (range_with_len a n) ≡ all_below n q
unfolding all_below
all_from a zero p q same = refl
all_from a (suc n) p q same =
    let here : p a ≡ q 0 = ap p (omega arith) ∙ same 0 in
    let rest = all_from (a + 1) n p (λ k. q (suc k)) (λ k. ap p (omega arith) ∙ same (suc k)) in
    rw (here, rest) (sym (all_first n q))

-- A test of the numbers below n.
pub all_ranged : (n : ℕ) (p : ℕ → Bool) → list_all p (range_with_len 0 n) ≡ all_below n p
all_ranged n p = all_from 0 n p p (λ k. ap p (omega arith))
