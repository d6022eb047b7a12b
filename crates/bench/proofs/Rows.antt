-- Laws of the checks on the list's rows, one after the other, and of those on what is lent beside the text.
-- Assumes nothing.
use Prim.Native.Nat.{ℕ, suc, ◌+◌, ◌-◌, ◌≤◌, ◌<◌}
use mathlib.Core.Bool.{Bool}
use mathlib.Core.List.{List, [], ◌∷◌, ◌++◌}
use mathlib.Core.Path.{◌≡◌, refl, sym}
use native.Mathlib.Numerals.{add-one}
use native.Mathlib.Omega.{arith}
use lib.Dec.{leb}
use lib.ListN.{length}
use borrow.Author.Tests.{leb-true, eqb-true, eq-eqb, ne_eqb}
use Rattle.std.specs.Prelude.{◌≢◌, Err}
use Rattle.block.specs.declared.verdict.Refusal.{Refusal}
use Rattle.block.specs.Verdict.{check, verdict, refusal, Verdict, Accepted}
use Rattle.block.specs.declared.verdict.Reason.TheVariants.{OutOfRange, WrongBuffer}
use Rattle.block.proofs.Verdicts.{all_passed, passed, refused_here, judged_later}
use Rattle.bench.specs.Checks.{size_checks, row_in_range, rows_from}

module _ (list : List ℕ) (row : ℕ) where
  first_row : row < 8 → rows_from list row (8 - row) ≡ check OutOfRange row (row_in_range list row) ∷ rows_from list (row + 1) (8 - (row + 1))
  unfolding rows_from
  first_row h = let e : 8 - row ≡ suc (8 - (row + 1)) = omega arith in rw (e, add-one row) refl

  -- One row more, as code judges it.
  module _ {passes : Bool} {v : Verdict} (h : row < 8) (made : v ≡ verdict (check OutOfRange row passes ∷ [])) (same : passes ≡ row_in_range list row) where
    pub rows_refused : {r : Refusal} → v ≡ Err r → Err r ≡ verdict (rows_from list row (8 - row))
    rows_refused e = rw (first_row h) (refused_here OutOfRange row made same _ e)

    pub rows_next : v ≡ Accepted → verdict (rows_from list (row + 1) (8 - (row + 1))) ≡ verdict (rows_from list row (8 - row))
    rows_next e = rw (first_row h) (judged_later OutOfRange row made same _ e refl)

  pub rows_end : 8 ≤ row → verdict (rows_from list row (8 - row)) ≡ Accepted
  unfolding rows_from
  rows_end h = let e : 8 - row ≡ 0 = omega arith in rw e (sym all_passed)

-- What accepted sizes are.
pub sizes_right : (list records : ℕ) → verdict (size_checks list records) ≡ Accepted → (20480 ≤ records) × (list ≡ 64)
unfolding size_checks
sizes_right list records e =
    let first = passed WrongBuffer _ _ _ e in
    (leb-true _ _ first.0, eqb-true _ _ (passed WrongBuffer _ _ _ first.1).0)

-- The checks on what is lent beside the text, one after the other.
module _ (list : List ℕ) (records : ℕ) {v : Verdict} (first : v ≡ verdict (check WrongBuffer 1 (leb 20480 records) ∷ [])) where
  pub small_refused : {r : Refusal} → v ≡ Err r → verdict (size_checks (length list) records ++ rows_from list 0 8) ≡ Err r
  unfolding size_checks
  small_refused e = sym (refused_here WrongBuffer 1 first refl _ e)

  module _ (large : v ≡ Accepted) where
    pub long_refused : length list ≢ 64 → verdict (size_checks (length list) records ++ rows_from list 0 8) ≡ Err (refusal WrongBuffer 2)
    unfolding size_checks verdict
    long_refused other = sym (judged_later WrongBuffer 1 first refl _ large (rw (ne_eqb (length list) 64 other) refl))

    pub rows_judged : length list ≡ 64 → {w : Verdict} → w ≡ verdict (rows_from list 0 8)
        → verdict (size_checks (length list) records ++ rows_from list 0 8) ≡ w
    unfolding size_checks verdict
    rows_judged long same = sym (judged_later WrongBuffer 1 first refl _ large (rw (eq-eqb (length list) 64 long) same))
