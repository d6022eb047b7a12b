-- Laws of answers: what an answer tells of what it was made from.
-- Assumes nothing.
use Prim.Native.Nat.{ℕ}
use mathlib.Core.Path.{◌≡◌, refl}
use native.Mathlib.Omega.{arith}
use Rattle.std.specs.Option.{ok_or}
use Rattle.std.specs.Prelude.{Option, Some, None, Result, Ok, Err}
use Rattle.block.specs.Verdict.{Verdict, Accepted}
use Rattle.block.specs.declared.verdict.Refusal.{Refusal}
use Rattle.operation.specs.Operation.{answer_after}

-- What is found is the answer at an accepted verdict alone, and a refusal at that refusal.

pub accepted_told : {T : Type 0} {found x : T} (v : Verdict) → Ok found ≡ answer_after v x → (v ≡ Accepted) × (found ≡ x)
accepted_told (Ok _) e = (refl, cc)
accepted_told (Err r) e = absurd (let z : ◌≡◌ {A = ℕ} 0 1 = cc in omega arith)

pub refused_told : {T : Type 0} (x : T) {r : Refusal} (v : Verdict) → Err r ≡ answer_after v x → v ≡ Err r
refused_told x (Ok _) e = absurd (let z : ◌≡◌ {A = ℕ} 0 1 = cc in omega arith)
refused_told x (Err q) e = cc

-- What is looked for is missing, and the refusal says so, or it is there.

missing_told : {T : Type 0} (o : Option T) (q r : Refusal) → Err r ≡ ok_or o q → (o ≡ None) × (r ≡ q)
missing_told None q r e = (refl, cc)
missing_told (Some x) q r e = absurd (let z : ◌≡◌ {A = ℕ} 0 1 = cc in omega arith)

there_told : {T : Type 0} (o : Option T) (q : Refusal) (x : T) → Ok x ≡ ok_or o q → o ≡ Some x
there_told None q x e = absurd (let z : ◌≡◌ {A = ℕ} 0 1 = cc in omega arith)
there_told (Some y) q x e = cc

module _ {T : Type 0} (o : Option T) (q : Refusal) {answer : Result T Refusal} (is : answer ≡ ok_or o q) where
  pub missing : {r : Refusal} → answer ≡ Err r → (o ≡ None) × (r ≡ q)
  missing {r} told = missing_told o q r (rw told at is)

  pub there : {x : T} → answer ≡ Ok x → o ≡ Some x
  there {x} told = there_told o q x (rw told at is)
