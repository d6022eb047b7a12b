-- Laws of buffers of which one range was written by a rule: a loop that writes them word by word.
-- Assumes nothing.
use Prim.Native.Nat.{ℕ, ◌+◌, ◌-◌, ◌<◌}
use mathlib.Core.Path.{◌≡◌, refl, ap, sym, subst, ◌∙◌}
use mathlib.Core.List.{List}
use mathlib.Core.Logic.{inl, inr, ⊎_elim}
use native.Mathlib.Nat.{eq-or-lt_of_le, zero-add}
use native.Mathlib.Omega.{arith}
use lib.Dec.{ltb}
use lib.ListN.{length, get_or, set, length-set}
use lib.Seq.{get_or-set_same, get_or-set_other}
use borrow.Author.Tests.{ltb-true, ltb-false}
use borrow.Table.Steps.{cases}
use Rattle.laws.specs.Rewritten.{Rewritten}

-- Nothing is written yet.
pub rewritten_none : (f : ℕ → ℕ) (from : ℕ) (given : List ℕ) → Rewritten f from 0 given given
rewritten_none f from given = record { long = refl; done = λ k h. absurd (omega arith); rest = λ j h. refl }

-- One word more.
pub rewritten_next : (f : ℕ → ℕ) (from n at v : ℕ) (given now : List ℕ) → at ≡ from + n → at < length given → v ≡ f n
    → Rewritten f from n given now → Rewritten f from (n + 1) given (set now at v)
rewritten_next f from n at v given now e h r w = record {
  long = length-set now at v ∙ w.long;
  done = λ k l. ⊎_elim
      (λ (q : k ≡ n). let i : at ≡ from + k = omega arith in
      let placed : get_or (set now at v) at 0 ≡ f k = get_or-set_same now at v 0 (omega (arith, w.long)) ∙ r ∙ rw q refl in
      subst (λ j. get_or (set now at v) j 0 ≡ f k) i placed)
      (λ m. get_or-set_other now at (from + k) v 0 (λ z. omega arith) ∙ w.done k m)
      (eq-or-lt_of_le (omega arith));
  rest = λ j o. ⊎_elim
      (λ b. get_or-set_other now at j v 0 (λ z. omega arith) ∙ w.rest j (inl b))
      (λ b. get_or-set_other now at j v 0 (λ z. omega arith) ∙ w.rest j (inr (omega arith)))
      o;
}

-- A range of another length that is the same.
pub rewritten_to : (f : ℕ → ℕ) (from n m : ℕ) (given now : List ℕ) → n ≡ m → Rewritten f from n given now → Rewritten f from m given now
rewritten_to f from n m given now e w = subst (λ k. Rewritten f from k given now) e w

-- A range from the start of the buffer on.
pub rewritten_first : (f : ℕ → ℕ) (n : ℕ) (given now : List ℕ) → Rewritten f 0 n given now → (k : ℕ) → k < n → get_or now k 0 ≡ f k
rewritten_first f n given now w k h = ap (λ j. get_or now j 0) (sym (zero-add k)) ∙ w.done k h

-- The same by another rule that agrees with the first on the range.
pub rewritten_same : (f g : ℕ → ℕ) (from n : ℕ) (given now : List ℕ) → ((k : ℕ) → k < n → f k ≡ g k) → Rewritten f from n given now
    → Rewritten g from n given now
rewritten_same f g from n given now same w = record { long = w.long; done = λ k l. w.done k l ∙ same k l; rest = w.rest }

-- Two ranges, the second right after the first, are one by any rule that is f on the first and g after it.
pub rewritten_append : (f g h : ℕ → ℕ) (from n at m : ℕ) (given now after : List ℕ) → at ≡ from + n
    → ((k : ℕ) → k < n → f k ≡ h k) → ((k : ℕ) → k < m → g k ≡ h (n + k))
    → Rewritten f from n given now → Rewritten g at m now after → Rewritten h from (n + m) given after
rewritten_append f g h from n at m given now after e first second v w = record {
  long = w.long ∙ v.long;
  done = λ k l. cases (ltb k n)
      (λ t. let b = ltb-true k n t in w.rest (from + k) (inl (omega arith)) ∙ v.done k b ∙ first k b)
      (λ t. let b = ltb-false k n t in
      let i : from + k ≡ at + (k - n) = omega arith in
      let j : n + (k - n) ≡ k = omega arith in
      ap (λ p. get_or after p 0) i ∙ w.done (k - n) (omega arith) ∙ second (k - n) (omega arith) ∙ ap h j);
  rest = λ j o. ⊎_elim
      (λ b. w.rest j (inl (omega arith)) ∙ v.rest j (inl b))
      (λ b. w.rest j (inr (omega arith)) ∙ v.rest j (inr (omega arith)))
      o;
}
