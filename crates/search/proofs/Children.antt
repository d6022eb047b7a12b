-- Laws of a child made: where it has its parent's probe, where it is skipped and where it is made.
-- Assumes nothing.
use Prim.Native.Nat.{ℕ, ◌+◌, ◌≤◌, ◌<◌, max}
use mathlib.Core.Bool.{Bool, true, false, not, false≢true}
use mathlib.Core.List.{List}
use mathlib.Core.Path.{◌≡◌, refl, ap, sym, subst, ◌∙◌}
use native.Mathlib.Omega.{arith}
use lib.ListN.{length, get_or}
use Rattle.laws.proofs.Tests.{confirmed}
use Rattle.excitation.specs.Excitation.{same}
use Rattle.excitation.proofs.Sets.{same_gives}
use Rattle.excitation.specs.UncertaintySet.{member, decode, sets_in}
use Rattle.excitation.specs.declared.Excitation.{Excitation}
use Rattle.block.specs.Limits.{drop_limit}
use Rattle.cases.specs.Case.{first_allowed, probe}
use Rattle.cases.specs.Records.{child_codes}
use Rattle.cases.proofs.Children.{child_probe}
use Rattle.evaluation.specs.declared.Setting.{Setting}
use Rattle.bounds.specs.Bounds.{pattern_drop, probe_drop, CaseBounded, CaseMade}
use Rattle.search.specs.Steps.{ChildMade}
use Rattle.search.specs.declared.split.Step.{Step}

-- The probe's drop of the child that has its parent's probe is below the threshold where the parent's is.
pub child_below : (setting : Setting) (parent : List ℕ) (input : ℕ) (e : Excitation) {codes : List ℕ} {known : Bool} {threshold : ℕ}
    → length parent ≡ 64 → input < setting.inputs → codes ≡ child_codes parent input e → known ≡ same e (first_allowed (decode (get_or parent input 0)))
    → probe_drop setting parent < threshold → known ≡ true → probe_drop setting codes < threshold
child_below setting parent input e {threshold = threshold} long inside coded is below test =
    let first = same_gives e (first_allowed (decode (get_or parent input 0))) (sym is ∙ test) in
    let kept = ap (λ bytes. probe (sets_in setting.inputs bytes)) coded ∙ child_probe setting.inputs setting.accepted.few_inputs parent long input inside e first in
    subst (λ pattern. pattern_drop setting pattern < threshold) (sym kept) below

-- A case bounded whose probe's drop is below the threshold is made: no probe is better.
pub bounded_made : {setting : Setting} {codes : List ℕ} {cap threshold at : ℕ} {store store' pattern : List ℕ}
    → CaseBounded setting codes cap at store store' → probe_drop setting codes < threshold → threshold ≤ drop_limit
    → CaseMade setting codes cap threshold at store pattern threshold store' pattern
bounded_made bounded below low = record {
  stored = bounded.stored;
  upper_low = bounded.upper_low;
  drop_low = omega arith;
  kept = λ m. (refl, refl);
  reached = λ m. absurd (omega arith);
}

-- A child made.

pub child_made : {setting : Setting} {parent : List ℕ} {input : ℕ} {e : Excitation} {cap : ℕ} {step : Step} {store pattern : List ℕ}
    {allowed : Bool} {codes : List ℕ} {threshold : ℕ} {after : Step} {store' pattern' : List ℕ}
    → allowed ≡ member e (decode (get_or parent input 0)) → not allowed ≡ false
    → codes ≡ child_codes parent input e → CaseMade setting codes cap step.threshold step.next.0 store pattern threshold store' pattern'
    → after ≡ record { cases = max (step.next.0 + 1) step.cases; next = record { 0 = max (step.next.0 + 1) step.cases }; threshold = threshold }
    → ChildMade setting parent input e cap step store pattern after store' pattern'
child_made tested h coded made moved =
    let yes = confirmed tested h in
    record {
      skipped = λ t. absurd (false≢true (sym t ∙ yes));
      made = λ t. rw (← coded, moved) made;
      counted = λ t. rw moved (refl, refl);
    }
