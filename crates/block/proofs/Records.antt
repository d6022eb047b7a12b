-- Laws of the checks on one record after the other, as the reader makes them.
-- Assumes nothing.
use Rattle.std.specs.Prelude.{Err}
use Rattle.block.specs.Verdict.{Verdict, Accepted}
use Rattle.block.specs.declared.verdict.Reason.TheVariants.{LateArrival}
use Prim.Native.Nat.{ℕ, suc, ◌+◌, ◌-◌, ◌≤◌, ◌<◌}
use mathlib.Core.Path.{◌≡◌, refl, sym, ap, ◌∙◌}
use mathlib.Core.List.{List, [], ◌∷◌, ◌++◌}
use native.Mathlib.Omega.{arith}
use native.Mathlib.Numerals.{add-one}
use lib.Dec.{leb}
use lib.ListN.{length, take, set}
use lib.Seq.{take-suc-set}
use Rattle.laws.specs.Below.{indicator}
use Rattle.laws.proofs.Below.{count_next}
use Rattle.laws.proofs.Turn.{turn_next}
use Rattle.block.specs.declared.verdict.Refusal.{Refusal}
use Rattle.block.specs.Record.{File, is_input}
use Rattle.block.specs.Block.{arrival_from, arrivals, arrival, inputs_below}
use Rattle.block.specs.Verdict.{check, verdict}
use Rattle.block.specs.Refusals.{arrival_in_time, field_checks, record_checks, records_from}
use Rattle.block.proofs.Verdicts.{all_passed, refused_first, accepted_first}

-- What the reader keeps, after one net more.

pub counted_next : (file : File) (net inputs : ℕ) → inputs ≡ inputs_below file net
    → inputs + indicator (is_input file net) ≡ inputs_below file (net + 1)
unfolding inputs_below
counted_next file net inputs e = rw e (sym (count_next net (is_input file)))

pub arrived_next : (file : File) (net : ℕ) (earlier : List ℕ) (a : ℕ) → net < length earlier
    → take net earlier ≡ arrivals file net → a ≡ arrival file net
    → take (net + 1) (set earlier net a) ≡ arrivals file (net + 1)
unfolding arrivals
arrived_next file net earlier a h e v =
    ap (λ n. take n (set earlier net a)) (add-one net) ∙ take-suc-set earlier net a h ∙ rw (e, v) (sym (turn_next (arrival_from file) net))

-- The verdict on a record, from that on its fields and its arrival.
module _ (file : File) (net : ℕ) where
  pub fields_refused : (r : Refusal) → verdict (field_checks file net) ≡ Err r → verdict (record_checks file net) ≡ Err r
  unfolding record_checks
  fields_refused r e = refused_first (field_checks file net) _ r e

  pub record_judged : {a : ℕ} {answer : Verdict} → verdict (field_checks file net) ≡ Accepted → a ≡ arrival file net
      → answer ≡ verdict (check LateArrival net (leb a 255) ∷ []) → answer ≡ verdict (record_checks file net)
  unfolding record_checks arrival_in_time
  record_judged passed e f = f ∙ ap (λ n. verdict (check LateArrival net (leb n 255) ∷ [])) e ∙ sym (accepted_first (field_checks file net) _ passed)

-- The verdict on the records from a net on, by that on its own.
module _ (file : File) (net nets : ℕ) where
  first_of : net < nets → records_from file net (nets - net) ≡ record_checks file net ++ records_from file (net + 1) (nets - (net + 1))
  unfolding records_from
  first_of h = let e : nets - net ≡ suc (nets - (net + 1)) = omega arith in rw (e, add-one net) refl

  pub records_refused : net < nets → (r : Refusal) → verdict (record_checks file net) ≡ Err r
      → verdict (records_from file net (nets - net)) ≡ Err r
  records_refused h r e = ap verdict (first_of h) ∙ refused_first (record_checks file net) _ r e

  pub records_next : net < nets → verdict (record_checks file net) ≡ Accepted
      → verdict (records_from file (net + 1) (nets - (net + 1))) ≡ verdict (records_from file net (nets - net))
  records_next h e = sym (ap verdict (first_of h) ∙ accepted_first (record_checks file net) _ e)

  pub records_end : nets ≤ net → verdict (records_from file net (nets - net)) ≡ Accepted
  unfolding records_from
  records_end h = let e : nets - net ≡ 0 = omega arith in rw e (sym all_passed)
