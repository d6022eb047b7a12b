-- The sets of a case's probe, as codes: sets of one member. Those of a decided case are its own.
-- Assumes nothing.
use Prim.Native.Nat.{ℕ, ◌<◌}
use mathlib.Core.Bool.{true}
use mathlib.Core.List.{List, map}
use mathlib.Core.Path.{◌≡◌, ap, sym, ◌∙◌}
use native.Mathlib.Omega.{arith}
use lib.ListN.{get_or}
use borrow.Author.Tests.{not-true}
use Rattle.laws.specs.Turn.{list_below}
use Rattle.laws.proofs.Below.{all_at}
use Rattle.laws.proofs.Turn.{list_map, list_same}
use Rattle.excitation.specs.UncertaintySet.{code, decode, empty, single, sets_in}
use Rattle.excitation.proofs.Codes.{decode_code, some_member}
use Rattle.cases.specs.Case.{decided, first_allowed, probe}
use Rattle.cases.specs.Records.{SetCodes}
use Rattle.cases.proofs.Cases.{decided_single}
use Rattle.cases.proofs.Codes.{decided_at, decided_codes}

-- The probe's single sets, input by input.
singles_are : (inputs : ℕ) (codes : List ℕ) → map single (probe (sets_in inputs codes)) ≡ list_below inputs (λ net. single (first_allowed (decode (get_or codes net 0))))
unfolding probe sets_in
singles_are inputs codes =
    ap (map single) (list_map first_allowed inputs (λ net. decode (get_or codes net 0)))
    ∙ list_map single inputs (λ net. first_allowed (decode (get_or codes net 0)))

-- Bytes of which those of the inputs code the single sets of a probe.
pub probe_sets : (inputs : ℕ) (codes singles : List ℕ)
    → ((net : ℕ) → net < inputs → get_or singles net 0 ≡ code (single (first_allowed (decode (get_or codes net 0)))))
    → sets_in inputs singles ≡ map single (probe (sets_in inputs codes))
unfolding sets_in
probe_sets inputs codes singles coded =
    list_same inputs (λ net. decode (get_or singles net 0)) (λ net. single (first_allowed (decode (get_or codes net 0)))) empty
    (λ net h. ap decode (coded net h) ∙ decode_code _)
    ∙ sym (singles_are inputs codes)

-- The codes of a decided case.
pub decided_sets : (inputs : ℕ) (codes : List ℕ) → SetCodes inputs codes → decided (sets_in inputs codes) ≡ true
    → sets_in inputs codes ≡ map single (probe (sets_in inputs codes))
unfolding sets_in
decided_sets inputs codes coded d =
    list_same inputs (λ net. decode (get_or codes net 0)) (λ net. single (first_allowed (decode (get_or codes net 0)))) empty
    (λ net h. let some = some_member (get_or codes net 0) (coded.low net h) (omega (arith, coded.high net h)) in
    decided_single (decode (get_or codes net 0)) some.0
    (not-true _ (all_at inputs (decided_at codes) net (sym (decided_codes inputs codes) ∙ d) h)) some.1)
    ∙ sym (singles_are inputs codes)
