-- Laws of the codes of uncertainty sets, and of the sets of the inputs, which are given by their codes.
-- Assumes nothing.
use Prim.Native.Nat.{ℕ, ◌+◌, ◌*◌, ◌/◌, ◌%◌, ◌≤◌, ◌<◌}
use mathlib.Core.Bool.{false, ◌||◌}
use mathlib.Core.List.{List}
use mathlib.Core.Path.{◌≡◌, refl, ap, sym}
use native.Mathlib.Nat.{le_refl, mul-add-mod_self_left}
use native.Mathlib.Omega.{arith}
use lib.Bits.{bit_and}
use lib.Dec.{leb, eqb, ltb}
use lib.ListN.{length, get_or}
use borrow.Author.Tests.{leb-true, leb-false, eqb-true, ltb-true}
use borrow.Table.Steps.{cases}
use Rattle.std.proofs.lemmas.List.{get_or_past}
use Rattle.laws.specs.Below.{all_below}
use Rattle.laws.proofs.Below.{all_at}
use Rattle.laws.proofs.Tests.{or_cases}
use Rattle.laws.proofs.Turn.{list_at, list_long, list_same}
use Rattle.excitation.specs.UncertaintySet.{UncertaintySet, member, ◌∈◌, empty, single, some, code, decode, sets_in, each, invert_set}
use Rattle.excitation.specs.declared.Excitation.{Excitation}
use Rattle.excitation.proofs.Finite.{for_each, every_at}
use Rattle.excitation.proofs.Sets.{same_set, same_set_lem, some_gives}

last_bit : (n q r : ℕ) → n ≡ 2 * q + r → r % 2 ≡ n % 2
last_bit n q r e = rw e (sym (mul-add-mod_self_left 2 q r))

-- The four high bits of a byte say nothing.
pub decode_low : (n : ℕ) → decode (n % 16) ≡ decode n
unfolding decode
decode_low n =
    let q = n / 16 in
    rw (
      last_bit n (8 * q) (n % 16) (omega arith),
      last_bit (n / 2) (4 * q) (n % 16 / 2) (omega arith),
      last_bit (n / 4) (2 * q) (n % 16 / 4) (omega arith),
      last_bit (n / 8) q (n % 16 / 8) (omega arith),
    )
    refl

pub code_decode : (n : ℕ) → n < 16 → code (decode n) ≡ n
unfolding all_below code decode
code_decode n h = eqb-true _ _ (all_at 16 (λ n. eqb (code (decode n)) n) n refl h)

pub code_below : (s : UncertaintySet) → code s < 16
unfolding code
code_below s = ltb-true _ _ (every_at (λ s. ltb (code s) 16) refl s)

pub single_coded : (x : Excitation) → 1 ≤ code (single x)
unfolding code
single_coded = for_each (λ x. 1 ≤ code (single x)) (omega arith) (omega arith) (omega arith) (omega arith)

pub decode_code : (s : UncertaintySet) → decode (code s) ≡ s
unfolding code decode
decode_code s = same_set_lem (decode (code s)) s (every_at (λ s. same_set (decode (code s)) s) refl s)

-- What is read past the last code is 0. So where the set of each input has a member, there is a code for each.
pub codes_enough : {inputs : ℕ} (codes : List ℕ) → ((net : ℕ) → net < inputs → 1 ≤ get_or codes net 0) → inputs ≤ length codes
codes_enough {inputs} codes coded = cases (leb inputs (length codes)) (leb-true inputs (length codes)) few
  where
    few : leb inputs (length codes) ≡ false → inputs ≤ length codes
    few e =
        let short : length codes < inputs = leb-false inputs (length codes) e in
        let none : get_or codes (length codes) 0 ≡ 0 = get_or_past codes (length codes) 0 (le_refl (length codes)) in
        absurd (omega (arith, coded (length codes) short))

-- A number 1 to 15 codes a set that has a member.
pub some_member : (n : ℕ) → 1 ≤ n → n < 16 → (e : Excitation) × (e ∈ decode n)
unfolding all_below decode member
some_member n low high =
    or_cases (eqb n 0) (some (λ e. member e (decode n)))
    (all_at 16 (λ n. eqb n 0 || some (λ e. member e (decode n))) n refl high)
    (λ z. let e : n ≡ 0 = eqb-true _ _ z in absurd (omega arith))
    (λ s. some_gives (λ e. member e (decode n)) s)

-- A set turned over, by its bits: l and h change places, and so do hl and lh.

pub invert_bits : (n : ℕ) → n < 16 → bit_and n 5 * 2 + bit_and n 10 / 2 ≡ code (invert_set (decode n))
unfolding all_below code decode each member
invert_bits n h = eqb-true _ _ (all_at 16 (λ n. eqb (bit_and n 5 * 2 + bit_and n 10 / 2) (code (invert_set (decode n)))) n refl h)

pub bits_small : (n : ℕ) → n < 16 → (bit_and n 5 < 16) × (bit_and n 10 < 16)
unfolding all_below
bits_small n h =
    (ltb-true _ _ (all_at 16 (λ n. ltb (bit_and n 5) 16) n refl h), ltb-true _ _ (all_at 16 (λ n. ltb (bit_and n 10) 16) n refl h))

-- The sets of the inputs: one for each, by the byte of that input alone.

pub set_at : (inputs : ℕ) (codes : List ℕ) (net : ℕ) (d : UncertaintySet) → net < inputs → get_or (sets_in inputs codes) net d ≡ decode (get_or codes net 0)
unfolding sets_in
set_at inputs codes net d h = list_at inputs (λ net. decode (get_or codes net 0)) net d h

pub sets_long : (inputs : ℕ) (codes : List ℕ) → length (sets_in inputs codes) ≡ inputs
unfolding sets_in
sets_long inputs codes = list_long inputs (λ net. decode (get_or codes net 0))

pub sets_same : (inputs : ℕ) (codes others : List ℕ) → ((net : ℕ) → net < inputs → get_or codes net 0 ≡ get_or others net 0)
    → sets_in inputs codes ≡ sets_in inputs others
unfolding sets_in
sets_same inputs codes others same =
    list_same inputs (λ net. decode (get_or codes net 0)) (λ net. decode (get_or others net 0)) empty (λ net h. ap decode (same net h))
