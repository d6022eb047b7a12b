-- Laws of the choice by a list: what a scan of the list finds.
-- Assumes nothing.
use Prim.Native.Nat.{ℕ, suc, ◌+◌, ◌≤◌, ◌<◌}
use mathlib.Core.Bool.{Bool, true, false, cond}
use mathlib.Core.List.{List}
use mathlib.Core.Path.{◌≡◌, refl, ap, sym, ◌∙◌}
use native.Mathlib.Numerals.{add-one}
use native.Mathlib.Omega.{arith}
use lib.ListN.{get_or, drop, drop_of_length-le}
use lib.Seq.{drop-cons}
use Rattle.excitation.specs.UncertaintySet.{empty, decode, sets_in}
use Rattle.excitation.proofs.Codes.{set_at}
use Rattle.operation.specs.SplitOrder.{NetsListed}
use Rattle.cases.specs.Case.{undecided}
use Rattle.cases.specs.Choice.{first_undecided}

module _ {inputs : ℕ} {order : List ℕ} (listed : NetsListed inputs order) (codes : List ℕ) where
  abbrev scanned : ℕ → ℕ
  scanned k = first_undecided (drop k order) (sets_in inputs codes)

  scan_step : (k net : ℕ) → k < inputs → net ≡ get_or order k 0
      → scanned k ≡ cond (undecided (decode (get_or codes net 0))) net (scanned (k + 1))
  unfolding first_undecided
  scan_step k net h e =
      ap (λ xs. first_undecided xs (sets_in inputs codes)) (drop-cons order k 0 (omega (arith, listed.long)))
      ∙ ap (λ s. cond (undecided s) (get_or order k 0) (first_undecided (drop (suc k) order) (sets_in inputs codes)))
      (set_at inputs codes (get_or order k 0) empty (listed.low k h))
      ∙ rw (← e, add-one) refl

  pub scan_found : (k net : ℕ) {u : Bool} → k < inputs → net ≡ get_or order k 0 → u ≡ undecided (decode (get_or codes net 0)) → u ≡ true → net ≡ scanned k
  scan_found k net h e is t = sym (scan_step k net h e ∙ rw (sym is ∙ t) refl)

  pub scan_next : (k net : ℕ) {u : Bool} → k < inputs → net ≡ get_or order k 0 → u ≡ undecided (decode (get_or codes net 0)) → u ≡ false
      → scanned (k + 1) ≡ scanned k
  scan_next k net h e is t = sym (scan_step k net h e ∙ rw (sym is ∙ t) refl)

  pub scan_end : (k : ℕ) → inputs ≤ k → 0 ≡ scanned k
  unfolding first_undecided
  scan_end k h = rw (drop_of_length-le order {i = k} (omega (arith, listed.long))) refl
