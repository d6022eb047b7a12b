-- Laws of the sets of a case by their codes: which are undecided, and the probe.
-- Assumes nothing.
use Prim.Native.Nat.{ℕ, zero, suc, ◌+◌, ◌/◌, ◌%◌, ◌≤◌, ◌<◌}
use mathlib.Core.Bool.{Bool, not, ◌&&◌}
use mathlib.Core.List.{List, [], ◌∷◌}
use mathlib.Core.Path.{◌≡◌, refl, ap, sym, ◌∙◌}
use native.Mathlib.Omega.{arith}
use lib.Dec.{ltb}
use lib.ListN.{length, get_or, take, length-map}
use Rattle.std.specs.List.{list_all}
use Rattle.laws.specs.Below.{all_below}
use Rattle.laws.specs.Rewritten.{Rewritten}
use Rattle.laws.proofs.Below.{all_first, all_same, indicator_of}
use Rattle.laws.proofs.Rewritten.{rewritten_first}
use Rattle.laws.proofs.Turn.{list_at, list_map}
use Rattle.excitation.specs.Excitation.{l, byte_of, pattern_of}
use Rattle.excitation.specs.UncertaintySet.{decode, empty, size, sets_in}
use Rattle.excitation.proofs.Bytes.{byte_low, pattern_read}
use Rattle.excitation.proofs.Codes.{set_at, sets_long}
use Rattle.cases.specs.Store.{pattern_byte}
use Rattle.cases.specs.Case.{undecided, decided, first_allowed, probe}

-- How many members a coded set has: how many of its low four bits are 1.
size_code : (n : ℕ) → size (decode n) ≡ n % 2 + n / 2 % 2 + n / 4 % 2 + n / 8 % 2
unfolding size decode
size_code n =
    rw (
      indicator_of (n % 2) (omega arith),
      indicator_of (n / 2 % 2) (omega arith),
      indicator_of (n / 4 % 2) (omega arith),
      indicator_of (n / 8 % 2) (omega arith),
    )
    refl

pub undecided_code : (n : ℕ) → undecided (decode n) ≡ ltb 1 (n % 2 + n / 2 % 2 + n / 4 % 2 + n / 8 % 2)
unfolding undecided
undecided_code n = ap (ltb 1) (size_code n)

-- Whether a coded set is decided.
abbrev pub decided_at : List ℕ → ℕ → Bool
decided_at codes net = not (undecided (decode (get_or codes net 0)))

all_listed : (test : ℕ → Bool) (n : ℕ) (xs : List ℕ) → n ≤ length xs → list_all test (take n xs) ≡ all_below n (λ k. test (get_or xs k 0))
unfolding all_below
all_listed test zero xs h = refl
all_listed test (suc n) [] h = absurd (omega arith)
all_listed test (suc n) (x ∷ xs) h = ap (λ b. test x && b) (all_listed test n xs (omega arith)) ∙ sym (all_first n (λ k. test (get_or (x ∷ xs) k 0)))

pub decided_codes : (inputs : ℕ) (codes : List ℕ) → decided (sets_in inputs codes) ≡ all_below inputs (decided_at codes)
unfolding decided
decided_codes inputs codes =
    ap (λ n. all_below n (λ net. not (undecided (get_or (sets_in inputs codes) net empty)))) (sets_long inputs codes)
    ∙ all_same inputs _ _ (λ net h. ap (λ s. not (undecided s)) (set_at inputs codes net empty h))

pub decided_listed : (inputs : ℕ) (codes : List ℕ) → inputs ≤ length codes
    → list_all (λ code. not (undecided (decode code))) (take inputs codes) ≡ decided (sets_in inputs codes)
decided_listed inputs codes h = all_listed _ inputs codes h ∙ sym (decided_codes inputs codes)

-- The probe of a case, input by input, and its bytes.

probe_at : (inputs : ℕ) (codes : List ℕ) (net : ℕ) → net < inputs → get_or (probe (sets_in inputs codes)) net l ≡ first_allowed (decode (get_or codes net 0))
unfolding probe sets_in
probe_at inputs codes net h =
    ap (λ ps. get_or ps net l) (list_map first_allowed inputs (λ net. decode (get_or codes net 0)))
    ∙ list_at inputs (λ net. first_allowed (decode (get_or codes net 0))) net l h

pub probe_byte : (inputs : ℕ) (codes : List ℕ) (net : ℕ) {byte : ℕ} → net < inputs → byte ≡ byte_of (first_allowed (decode (get_or codes net 0)))
    → byte ≡ pattern_byte (probe (sets_in inputs codes)) net
unfolding pattern_byte
probe_byte inputs codes net h e = e ∙ ap byte_of (sym (probe_at inputs codes net h))

probe_long : (inputs : ℕ) (codes : List ℕ) → length (probe (sets_in inputs codes)) ≡ inputs
unfolding probe
probe_long inputs codes = length-map (sets_in inputs codes) first_allowed ∙ sets_long inputs codes

-- A probe that is written: its bytes are 0 to 3, and stand for it.
module _ (inputs : ℕ) (codes : List ℕ) {given after : List ℕ} (written : Rewritten (pattern_byte (probe (sets_in inputs codes))) 0 inputs given after) where
  byte_in : (net : ℕ) → net < inputs → get_or after net 0 ≡ byte_of (get_or (probe (sets_in inputs codes)) net l)
  unfolding pattern_byte
  byte_in = rewritten_first (pattern_byte (probe (sets_in inputs codes))) inputs given after written

  pub probe_low : (net : ℕ) → net < inputs → get_or after net 0 ≤ 3
  probe_low net h = rw (byte_in net h) (byte_low (get_or (probe (sets_in inputs codes)) net l))

  pub probe_read : pattern_of inputs after ≡ probe (sets_in inputs codes)
  probe_read = pattern_read inputs (probe (sets_in inputs codes)) after (probe_long inputs codes) byte_in
