-- The sizes that check 15 asks for, without a product: what the code tests is what the definition asks.
-- Assumes nothing.
use Prim.Native.Nat.{ℕ, ◌+◌, ◌*◌, ◌/◌}
use mathlib.Core.Path.{◌≡◌, sym, ◌∙◌}
use native.Mathlib.Omega.{arith}
use lib.Dec.{leb, ltb}
use borrow.Table.Steps.{cases}
use borrow.Author.Tests.{leb-true, leb-false, le-leb, lt-leb, lt-ltb, le-ltb}

-- At least 160 bytes a net.
pub work_fits : (nets n : ℕ) → leb nets (n / 160) ≡ leb (160 * nets) n
work_fits nets n =
    cases (leb (160 * nets) n)
    (λ e. le-leb nets (n / 160) (let h = leb-true (160 * nets) n e in omega arith) ∙ sym e)
    (λ e. lt-leb nets (n / 160) (let h = leb-false (160 * nets) n e in omega arith) ∙ sym e)

-- At least 72 × (1 + 3 × budget) bytes.
pub store_fits : (budget n : ℕ) → ltb budget ((n / 72 + 2) / 3) ≡ leb (72 * (1 + 3 * budget)) n
store_fits budget n =
    cases (leb (72 * (1 + 3 * budget)) n)
    (λ e. lt-ltb budget ((n / 72 + 2) / 3) (let h = leb-true (72 * (1 + 3 * budget)) n e in omega arith) ∙ sym e)
    (λ e. le-ltb budget ((n / 72 + 2) / 3) (let h = leb-false (72 * (1 + 3 * budget)) n e in omega arith) ∙ sym e)
