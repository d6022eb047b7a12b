-- Laws of verdicts: how code that makes one check after the other comes to the verdict on a list of checks, and what an accepted
-- list says of each of its checks.
-- Assumes nothing.
use Rattle.std.specs.Prelude.{Err}
use Rattle.block.specs.Verdict.{Verdict, Accepted}
use Prim.Native.Nat.{ℕ}
use mathlib.Core.Path.{◌≡◌, refl, sym, ap, ◌∙◌}
use Rattle.std.specs.Prelude.{IsErrAnd, Result}
use Rattle.std.proofs.lemmas.Result.{err_from_is_err_and}
use mathlib.Core.Bool.{Bool, true, false}
use mathlib.Core.List.Memᴰ
use mathlib.Core.List.{List, [], ◌∷◌, ◌++◌, Memᴰ}
use mathlib.Core.Logic.{⊎_elim}
use native.Mathlib.Omega.{arith}
use Rattle.block.specs.declared.verdict.Reason.{Reason}
use Rattle.block.specs.declared.verdict.Refusal.{Refusal}
use Rattle.block.specs.Verdict.{Check, check, verdict}

-- No verdict is both.
pub apart : {P : Type 0} (r : Refusal) → Err r ≡ Accepted → P
apart r e = absurd (let z : ◌≡◌ {A = ℕ} 0 1 = cc in omega arith)

pub all_passed : Accepted ≡ verdict []
unfolding verdict
all_passed = refl

-- What a `?` hands on is the refusal that it found.
pub handed_on : {T : Type 0} {x : Refusal} {r w : Result T Refusal} → IsErrAnd r (λ y. y ≡ x) → Err x ≡ w → r ≡ w
handed_on a e = let p = err_from_is_err_and _ a in p.1 ∙ ap Err p.2 ∙ e

-- A list that goes on after another: the first one's refusal stands, and its acceptance leaves the verdict to the second.

pub refused_first : (s t : List Check) (r : Refusal) → verdict s ≡ Err r → verdict (s ++ t) ≡ Err r
unfolding verdict
refused_first [] t r e = apart r (sym e)
refused_first (check reason place true ∷ s) t r e = refused_first s t r e
refused_first (check reason place false ∷ s) t r e = e

pub accepted_first : (s t : List Check) → verdict s ≡ Accepted → verdict (s ++ t) ≡ verdict t
unfolding verdict
accepted_first [] t e = refl
accepted_first (check reason place true ∷ s) t e = accepted_first s t e
accepted_first (check reason place false ∷ s) t e = apart _ e

-- A check that passes leaves an accepted list accepted.
pub stays_accepted : (reason : Reason) (place : ℕ) {b : Bool} (rest : List Check) → b ≡ true → verdict rest ≡ Accepted → verdict (check reason place b ∷ rest) ≡ Accepted
unfolding verdict
stays_accepted reason place rest t e = rw t e

-- What an accepted list says.

pub passed : (reason : Reason) (place : ℕ) (b : Bool) (rest : List Check) → verdict (check reason place b ∷ rest) ≡ Accepted
    → (b ≡ true) × (verdict rest ≡ Accepted)
unfolding verdict
passed reason place true rest e = (refl, e)
passed reason place false rest e = apart _ e

-- One check after the other, as code goes, where s is the code's own test of a check and t the definition's.
module _ (reason : Reason) (place : ℕ) {s t : Bool} {v : Verdict} (made : v ≡ verdict (check reason place s ∷ [])) (same : s ≡ t) where
  -- The last check.
  pub judged : v ≡ verdict (check reason place t ∷ [])
  judged = made ∙ ap (λ b. verdict (check reason place b ∷ [])) same

  pub holds : v ≡ Accepted → t ≡ true
  holds e = (passed reason place t [] (sym judged ∙ e)).0

  -- Its refusal stands.
  pub refused_here : (rest : List Check) {r : Refusal} → v ≡ Err r → Err r ≡ verdict (check reason place t ∷ rest)
  refused_here rest e = sym (refused_first (check reason place t ∷ []) rest _ (sym judged ∙ e))

  -- Where it passes, the verdict is left to the checks after it.
  pub judged_later : (rest : List Check) {w : Verdict} → v ≡ Accepted → w ≡ verdict rest → w ≡ verdict (check reason place t ∷ rest)
  judged_later rest e later = later ∙ sym (accepted_first (check reason place t ∷ []) rest (sym judged ∙ e))

-- Finds the verdict of code that makes one check after the other, each with `?`.
pub ruleset judging = (handed_on, judged, refused_here, judged_later, refl)

pub both_accepted : (s t : List Check) → verdict (s ++ t) ≡ Accepted → (verdict s ≡ Accepted) × (verdict t ≡ Accepted)
unfolding verdict
both_accepted [] t e = (refl, e)
both_accepted (check reason place true ∷ s) t e = both_accepted s t e
both_accepted (check reason place false ∷ s) t e = apart _ e

-- Every check of an accepted list passes, wherever it stands.
pub listed : (s : List Check) → verdict s ≡ Accepted → (reason : Reason) (place : ℕ) (b : Bool) → Memᴰ (check reason place b) s → b ≡ true
unfolding verdict
listed [] e reason place b m = absurd (Memᴰ.not-nil m)
listed (check q p true ∷ s) e reason place b m =
    ⊎_elim (λ (q : check reason place b ≡ check q p true). cc) (λ r. listed s e reason place b r) (Memᴰ.cases_cons m)
listed (check q p false ∷ s) e reason place b m = apart _ e

-- Finds a check in its list by search, so that a proof that cites `listed` does not depend on the order of the checks.
pub ruleset listing = (Memᴰ.head, Memᴰ.tail, refl)
