-- Laws of a pattern's bytes and the excitations that they stand for.
-- Assumes nothing.
use Prim.Native.Nat.{ℕ, zero, suc, ◌≤◌, ◌<◌}
use mathlib.Core.List.{List}
use mathlib.Core.Path.{◌≡◌, refl, ap, sym, ◌∙◌}
use native.Mathlib.Omega.{arith}
use lib.ListN.{length, get_or}
use Rattle.laws.proofs.Turn.{list_is}
use Rattle.excitation.specs.Excitation.{l, excitation_of, byte_of, pattern_of}
use Rattle.excitation.specs.declared.Excitation.{Excitation}
use Rattle.excitation.proofs.Finite.{for_each}

-- A byte that is none of 1, 2 and 3 stands for l.
pub byte_other : (byte : ℕ) → (byte ≡ 1 → ⊥) → (byte ≡ 2 → ⊥) → (byte ≡ 3 → ⊥) → excitation_of byte ≡ l
unfolding excitation_of
byte_other zero a b c = refl
byte_other (suc zero) a b c = absurd (a refl)
byte_other (suc (suc zero)) a b c = absurd (b refl)
byte_other (suc (suc (suc zero))) a b c = absurd (c refl)
byte_other (suc (suc (suc (suc n)))) a b c = refl

-- The byte of an excitation is 0 to 3 and stands for it.

pub byte_low : (e : Excitation) → byte_of e ≤ 3
unfolding byte_of
byte_low = for_each (λ e. byte_of e ≤ 3) (omega arith) (omega arith) (omega arith) (omega arith)

pub byte_back : (e : Excitation) → excitation_of (byte_of e) ≡ e
unfolding byte_of excitation_of
byte_back = for_each (λ e. excitation_of (byte_of e) ≡ e) refl refl refl refl

-- A byte of 0 to 3 is that of its excitation.
pub byte_forth : (byte : ℕ) → byte ≤ 3 → byte_of (excitation_of byte) ≡ byte
unfolding byte_of excitation_of
byte_forth zero h = refl
byte_forth (suc zero) h = refl
byte_forth (suc (suc zero)) h = refl
byte_forth (suc (suc (suc zero))) h = refl
byte_forth (suc (suc (suc (suc n)))) h = absurd (omega arith)

-- A buffer that has the byte of each of a pattern's excitations holds that pattern.
pub pattern_read : (inputs : ℕ) (pattern : List Excitation) (bytes : List ℕ) → length pattern ≡ inputs
    → ((net : ℕ) → net < inputs → get_or bytes net 0 ≡ byte_of (get_or pattern net l)) → pattern_of inputs bytes ≡ pattern
unfolding pattern_of
pattern_read inputs pattern bytes long each =
    sym (list_is inputs (λ net. excitation_of (get_or bytes net 0)) l pattern long
    (λ net h. sym (ap excitation_of (each net h) ∙ byte_back (get_or pattern net l))))
