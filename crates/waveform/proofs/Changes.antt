-- Laws of the tick after which the sets of a row stay the same.
-- Assumes nothing.
use Prim.Native.Nat.{ℕ, ◌+◌, ◌-◌, ◌*◌, ◌^◌, ◌≤◌, ◌<◌}
use mathlib.Core.Bool.{false, true≢false}
use mathlib.Core.Path.{◌≡◌, ap, sym, ◌∙◌}
use native.Mathlib.Omega.{arith}
use lib.Count.{count_leading_zeros}
use lib.Dec.{ltb}
use borrow.Author.Tests.{ltb-true, ltb-false}
use borrow.Table.Steps.{cases}
use Rattle.laws.specs.Settled.{SettledAfter}
use Rattle.bits.specs.Bits.{bit_at}
use Rattle.bits.proofs.Bits.{bit_zero}
use Rattle.bits.proofs.Leading.{leading_few, leading_clear, leading_set}

-- A word with a bit for each tick of a part at which the set is not the last one.
pub record OtherTicks {A : Type 0} (at : ℕ → A) (part word : ℕ) : Type 0 where
  pub same : (k : ℕ) → k < 64 → bit_at word k ≡ false → at (64 * part + k) ≡ at 255
  pub clear : (k : ℕ) → k < 64 → at (64 * part + k) ≡ at 255 → bit_at word k ≡ false

module _ {A : Type 0} (at : ℕ → A) where
  -- Settled after a tick is settled after every later one.
  pub settled_later : (last later : ℕ) → last ≤ later → SettledAfter last at → SettledAfter later at
  settled_later last later l s = record { same = λ t h. s.same t (omega arith) }

  -- A word is such a word of a part where its bits are clear just at the ticks at which what is read of the part is the last one.
  pub others_found : (part word : ℕ) (read last : ℕ → A) → ((k : ℕ) → k < 64 → read k ≡ at (64 * part + k)) → ((k : ℕ) → k < 64 → last k ≡ at 255)
      → ((k : ℕ) → (bit_at word k ≡ false → read k ≡ last k) × (read k ≡ last k → bit_at word k ≡ false)) → OtherTicks at part word
  others_found part word read last here end differing = record {
    same = λ k h e. sym (here k h) ∙ (differing k).0 e ∙ end k h;
    clear = λ k h e. (differing k).1 (here k h ∙ e ∙ sym (end k h));
  }

  -- Settled after a part, and settled in the part from a tick on.
  settled_within : (part last : ℕ) → 64 * part ≤ last + 1 → SettledAfter (64 * (part + 1) - 1) at
      → ((k : ℕ) → k < 64 → last < 64 * part + k → at (64 * part + k) ≡ at 255) → SettledAfter last at
  settled_within part last l s within = record {
    same = λ t h below. cases (ltb t (64 * (part + 1)))
        (λ b. let i = ltb-true t (64 * (part + 1)) b in
        let split : 64 * part + (t - 64 * part) ≡ t = omega arith in
        ap at (sym split) ∙ within (t - 64 * part) (omega arith) (omega arith))
        (λ b. let i = ltb-false t (64 * (part + 1)) b in s.same t (omega arith) below);
  }

  module _ (part word : ℕ) (others : OtherTicks at part word) where
    pub none_other : word ≡ 0 → SettledAfter (64 * (part + 1) - 1) at → SettledAfter (64 * part - 1) at
    none_other e later =
        settled_within part (64 * part - 1) (omega arith) later (λ k h l. others.same k h (ap (λ x. bit_at x k) e ∙ bit_zero k))

    -- The tick of its highest bit is the last at which the set is not the last one.
    module _ (some : 0 < word) (fits : word < 2 ^ 64) where
      pub last_other : SettledAfter (64 * (part + 1) - 1) at → SettledAfter (64 * part + 63 - count_leading_zeros 64 word) at
      last_other later =
          let few = leading_few 64 word some fits in
          settled_within part (64 * part + 63 - count_leading_zeros 64 word) (omega (arith, few)) later
          (λ k h l. others.same k h (leading_clear 64 word k some fits (omega (arith, few))))

      pub last_soon : (bound : ℕ) → part < 4 → SettledAfter bound at → 64 * part + 63 - count_leading_zeros 64 word ≤ bound
      last_soon bound l settled =
          let few = leading_few 64 word some fits in
          let k = 63 - count_leading_zeros 64 word in
          let top = leading_set 64 word k some fits (omega (arith, few)) in
          cases (ltb bound (64 * part + k))
          (λ b. let late = settled.same (64 * part + k) (ltb-true bound (64 * part + k) b) (omega arith) in
          absurd (true≢false (sym top ∙ others.clear k (omega arith) late)))
          (λ b. let i = ltb-false bound (64 * part + k) b in omega (arith, few))
